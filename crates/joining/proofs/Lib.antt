pub mod Sums
pub mod Meeting
pub mod Order
pub mod Same
