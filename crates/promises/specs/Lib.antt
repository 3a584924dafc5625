pub mod Cases
pub mod Determined
pub mod Answers
pub mod Demands
