pub mod Remembered
pub mod Kinds
pub mod Local
pub mod Said
