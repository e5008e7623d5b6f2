pub mod Words
pub mod Accepted
mod Order
