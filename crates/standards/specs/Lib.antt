pub mod Fips197
pub mod Rfc8439
pub mod Kinds
