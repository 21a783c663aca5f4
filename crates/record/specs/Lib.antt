pub mod Linked
pub mod Powers
