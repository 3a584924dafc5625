pub mod Plan
pub mod Wish
