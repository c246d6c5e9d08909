pub mod Near
pub mod Meant
pub mod Findings
pub mod Laws
