pub mod Agreeing
pub mod Onward
pub mod Quiet
pub mod Reached
pub mod Readiness
pub mod Remains
pub mod Retrying
pub mod Survived
pub mod Thinned
pub use Rattle.pg_laws.specs.PgExchange
pub use Rattle.pg_laws.specs.PgGroup
pub use Rattle.pg_laws.specs as PgLaws
pub use Rattle.pg_laws.specs.PgLock
pub use Rattle.pg_laws.specs.PgMessageTypes
pub use Rattle.pg_laws.specs.PgMulticall
pub use Rattle.pg_laws.specs.PgRefs
pub use Rattle.pg_laws.specs.PgStep
