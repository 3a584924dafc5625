pub mod Report
pub mod Standing
pub mod Walk
pub mod Promises
pub mod Theorems
