pub mod Fitting
pub mod FittingRuns
pub mod FittingTurns
pub mod Keys
pub mod References
pub mod Renewed
pub mod UsedOnce
