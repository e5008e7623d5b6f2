pub mod Blocks
pub mod Rows
pub mod Keys
