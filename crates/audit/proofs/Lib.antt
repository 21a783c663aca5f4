pub mod Audits
pub mod Marks
pub mod Steps
