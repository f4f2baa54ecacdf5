pub mod Applied
pub mod Formed
pub mod Living
pub mod TableRuns
pub mod Tabled
pub mod Values
