pub mod Buffered
pub mod Fault
pub mod Frames
pub mod Laws
pub mod Limits
pub mod Pieces
