pub mod Laws
pub mod Filled
pub mod Positions
pub mod Theorems
