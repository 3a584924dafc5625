pub mod Written
pub mod Read
pub mod One
pub mod Session
pub mod Three
