pub mod Record
pub mod Wish
pub mod Profile
pub mod Refusals
pub mod Answers
pub mod Frequency
