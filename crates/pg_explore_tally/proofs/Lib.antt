pub mod Counting
pub mod Passing
pub mod Walking
