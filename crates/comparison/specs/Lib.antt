pub mod Questions
pub mod Comparison
