pub mod Book
pub mod Lengths
