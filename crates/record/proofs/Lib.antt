pub mod Linked
pub mod Links
pub mod Powers
pub mod Readings
