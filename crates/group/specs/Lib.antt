pub mod Groups
pub mod Residues
pub mod Flags
pub mod Pairs
pub mod Quads
