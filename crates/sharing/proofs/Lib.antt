pub mod Masks
pub mod Groups
pub mod Formed
pub mod Dealt
