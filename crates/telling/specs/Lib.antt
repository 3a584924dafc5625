pub mod Input
pub mod Command
