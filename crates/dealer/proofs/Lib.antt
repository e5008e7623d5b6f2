pub mod Joined
pub mod Shorts
pub mod Longs
pub mod Wires
pub mod Accepted
pub mod Whole
