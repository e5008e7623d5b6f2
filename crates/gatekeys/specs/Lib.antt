pub mod Parameters
pub mod Random
