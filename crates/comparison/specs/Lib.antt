pub mod Sums
pub mod Walks
