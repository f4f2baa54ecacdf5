pub mod Differing
pub mod Findings
pub mod Names
pub mod Runs
pub mod Scenarios
pub mod Texts
pub mod Ways
