pub mod Questions
pub mod ShiftQuestions
pub mod Interval
pub mod Piece
pub mod Flag
pub mod Product
pub mod Shift
pub mod Reads
