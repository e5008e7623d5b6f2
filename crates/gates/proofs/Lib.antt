pub mod Asked
pub mod Ends
pub mod FlagShares
pub mod Meeting
pub mod Pieces
pub mod Shares
pub mod ShiftShares
