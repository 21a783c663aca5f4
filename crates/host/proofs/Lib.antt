pub mod Shown
pub mod Settling
pub mod Results
pub mod Previewing
