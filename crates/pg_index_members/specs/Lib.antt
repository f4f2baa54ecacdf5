pub mod Edges
pub mod Forms
pub mod Levels
pub mod Rows
pub use Rattle.pg_term.specs.Same
