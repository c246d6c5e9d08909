pub mod Moments
pub mod Courses
pub mod Working
pub mod Texts
pub mod Laws
