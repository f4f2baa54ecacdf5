pub mod Fault
pub mod Groups
pub mod Limits
pub mod Members
pub mod Name
pub mod Parts
pub mod Reading
pub mod Writing
pub use Rattle.pg_group.specs as PgGroup
pub use Rattle.pg_term_io.specs as PgTermIo
