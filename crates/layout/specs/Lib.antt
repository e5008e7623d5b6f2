pub mod Bytes
pub mod Keys
pub mod Wires
pub mod Books
