pub mod Read
pub mod Fits
pub mod One
pub mod Standing
pub mod Refusals
pub mod Ends
