pub mod Collected
pub mod Ends
pub mod Members
pub mod OwnReplies
pub mod Rows
pub mod Shapes
pub mod Spelled
pub mod Standing
