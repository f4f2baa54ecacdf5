pub mod Chained
pub mod Drained
pub mod Leading
pub mod Lost
pub mod Opened
pub mod Past
pub mod RunningOn
pub mod Seen
