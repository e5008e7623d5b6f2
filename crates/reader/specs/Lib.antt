pub mod Reading
pub mod Questions
pub mod Law
