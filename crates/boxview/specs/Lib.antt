pub mod Sharing
pub mod Values
pub mod Reading
pub mod Steps
