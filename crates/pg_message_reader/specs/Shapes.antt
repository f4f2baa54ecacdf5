pub mod Alike
pub mod Groups
pub mod Leaves
pub mod Lists
pub mod Shape
