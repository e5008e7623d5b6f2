pub mod Splits
pub mod Xors
pub mod Words
pub mod Local
pub mod Product
pub mod Piece
pub mod Shifts
pub mod Keyed
