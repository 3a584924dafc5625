pub mod Grid
pub mod Blocks
pub mod Letters
pub mod Numbers
pub mod Text
pub mod Drawing
pub mod Answers
