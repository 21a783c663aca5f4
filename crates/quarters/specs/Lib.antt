pub mod Walks
pub mod Readers
