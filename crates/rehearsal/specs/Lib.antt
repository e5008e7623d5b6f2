pub mod Machines
pub mod Rehearsed
