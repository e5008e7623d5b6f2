pub mod Elements
pub mod Piece
pub mod Signs
