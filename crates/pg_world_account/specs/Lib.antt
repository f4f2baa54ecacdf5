pub mod Agreeing
pub mod Histories
pub mod Losses
