pub mod Attempts
pub mod Holders
pub mod Locks
pub use Rattle.pg_term.specs.Same
