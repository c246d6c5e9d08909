pub mod Alike
pub mod Rehearsals
pub mod Reports
pub mod Covered
