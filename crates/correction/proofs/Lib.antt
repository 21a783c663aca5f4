pub mod Costs
pub mod Splits
pub mod Passes
