pub mod Examples
pub mod LossExamples
pub mod Outcomes
pub mod QueriesRead
pub mod RefusedCommands
