pub mod Written
pub mod Count
pub mod Wish
pub mod Reply
