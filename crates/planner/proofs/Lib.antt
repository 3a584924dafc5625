pub mod Laws
pub mod Demand
pub mod Theorems
