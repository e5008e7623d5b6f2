pub mod Ranges
pub mod Back
pub mod Checked
