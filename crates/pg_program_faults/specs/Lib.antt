pub mod Asides
pub mod Faults
pub mod Heard
