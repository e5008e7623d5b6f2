pub mod Gates
pub mod Plans
pub mod Questions
pub mod Meaning
pub mod Order
pub mod Allowed
pub mod Checked
pub mod Lengths
