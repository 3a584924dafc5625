pub mod Session
pub mod Walk
