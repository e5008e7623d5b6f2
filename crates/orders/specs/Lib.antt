pub mod Text
pub mod Grammar
pub mod Lines
pub mod Messages
