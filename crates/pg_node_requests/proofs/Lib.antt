pub mod Collected
pub mod Naming
pub mod Placing
