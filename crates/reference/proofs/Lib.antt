pub mod Products
pub mod References
pub mod Manners
