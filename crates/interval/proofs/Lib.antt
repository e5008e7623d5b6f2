pub mod Tests
pub mod Ends
pub mod Rule
