pub mod Counts
pub mod Pages
pub mod Runs
pub mod Takes
pub mod Walks
