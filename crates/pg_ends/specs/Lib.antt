pub mod EndFault
pub mod Limits
pub mod Numbers
pub mod Processes
pub use Rattle.pg_group.specs.Ended
pub use Rattle.pg_group.specs.Functions
pub use Rattle.pg_term.specs.Same
pub use Rattle.pg_group.specs.Table
