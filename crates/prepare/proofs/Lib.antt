pub mod Ready
pub mod Laws
pub mod Bases
