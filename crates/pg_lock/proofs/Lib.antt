pub mod Copies
pub mod Held
pub mod Sorted
pub mod Within
