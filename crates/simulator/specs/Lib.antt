pub mod Whole
pub mod Course
pub mod Steps
