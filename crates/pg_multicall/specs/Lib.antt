pub mod Gathered
pub mod Places
pub mod Replies
pub use Rattle.pg_term.specs.Same
