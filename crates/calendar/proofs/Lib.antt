pub mod Dates
pub mod Clocks
pub mod Days
