pub mod Options
pub mod Places
pub mod Plain
pub mod Sample
pub mod Sequences
pub mod Short
pub mod Steps
pub mod Timing
