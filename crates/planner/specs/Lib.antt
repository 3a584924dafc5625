pub mod Wish
pub mod Plan
pub mod Call
pub mod Pen
pub mod Promises
pub mod Demand
pub mod Theorems
