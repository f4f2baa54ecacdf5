pub mod Agreed
pub mod Heard
pub mod Missed
