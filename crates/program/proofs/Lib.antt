pub mod Handing
pub mod Steps
