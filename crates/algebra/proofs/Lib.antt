pub mod Multiples
pub mod Linear
pub mod Modulo
pub mod Ring
pub mod Residues
