pub mod Again
pub mod Ends
pub mod Faults
pub mod Reading
pub mod Spelling
pub mod Values
pub mod Writing
