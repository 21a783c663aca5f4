pub mod Steps
pub mod Points
pub mod Curves
pub mod Walks
