pub mod Chain
