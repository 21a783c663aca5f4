pub mod References
pub mod Manners
