pub mod Groups
pub mod Marks
pub mod Parts
pub mod Tables
pub mod Undone
