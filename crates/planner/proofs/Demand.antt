pub mod Safe
pub mod Step
pub mod Opening
pub mod Command
pub mod Stages
pub mod Cells
pub mod Theorem
