pub mod Heads
pub mod Asked
pub mod Meanings
pub mod Bodies
