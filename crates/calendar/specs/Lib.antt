pub mod Clocks
pub mod Deliveries
