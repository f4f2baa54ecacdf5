pub mod Frames
pub mod Limits
pub mod Puts
pub mod Told
