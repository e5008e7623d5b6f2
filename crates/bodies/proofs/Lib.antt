pub mod Rows
pub mod Numbers
pub mod Keys
pub mod Written
pub mod Longest
pub mod Spread
pub mod FoundKeys
pub mod FoundGates
