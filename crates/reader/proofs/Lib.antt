mod Gapless
mod Entries
pub mod Yes
pub mod Laid
pub mod Taken
pub mod Whole
pub mod Told
