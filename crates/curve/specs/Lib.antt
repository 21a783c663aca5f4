pub mod Tables
pub mod Steps
pub mod Answers
