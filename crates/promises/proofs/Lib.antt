pub mod Cases
pub mod Determined
pub mod Demands
