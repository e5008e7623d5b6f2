pub mod Alike
pub mod Told
pub mod Whole
pub mod Dealt
