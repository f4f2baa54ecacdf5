pub mod Clocked
pub mod Happened
pub mod Losing
pub mod Machine
pub mod Places
pub mod Runs
pub mod Timely
