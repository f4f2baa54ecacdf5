pub mod Configs
pub mod Faults
pub mod Firsts
pub mod Seen
