pub mod Closest
pub mod QueryFault
pub mod SameGroups
pub use Rattle.pg_group.specs.Members
pub use Rattle.pg_term.specs.Same
pub use Rattle.pg_group.specs.Scope
pub use Rattle.pg_group.specs.Table
pub use Rattle.pg_group.specs.Value
