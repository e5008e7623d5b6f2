pub mod Parts
pub mod Heads
pub mod Bodies
pub mod Allowed
