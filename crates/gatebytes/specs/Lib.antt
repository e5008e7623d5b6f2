pub mod Dealt
pub mod Heads
pub mod Keyed
