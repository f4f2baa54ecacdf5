pub mod Fault
pub mod Numbered
