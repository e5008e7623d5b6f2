pub mod ReadAll
pub mod Yielded
