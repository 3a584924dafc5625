pub mod Same
pub mod Read
pub mod Calls
pub mod Fillings
pub mod Plans
pub mod Told
