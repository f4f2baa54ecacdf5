pub mod Causes
pub mod Fault
pub mod Progress
pub mod Replica
