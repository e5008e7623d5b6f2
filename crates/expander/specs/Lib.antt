pub mod Seeds
pub mod Meaning
