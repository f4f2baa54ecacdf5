pub mod Deciding
pub mod Starting
