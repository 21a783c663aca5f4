pub mod Line
pub mod Fills
pub mod Readings
