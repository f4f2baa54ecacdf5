pub mod commands
pub mod ends
pub mod locks
pub mod places
pub mod quiet
pub mod references
pub mod steps
pub mod tables
pub mod tried
pub use Rattle.pg_step.proofs.PgGroup
pub use Rattle.pg_step.proofs as PgStep
