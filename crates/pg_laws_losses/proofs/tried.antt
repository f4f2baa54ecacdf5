pub mod Copies
pub mod Refuted
pub mod Tried
