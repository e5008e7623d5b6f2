pub mod Wirings
pub mod Laws
