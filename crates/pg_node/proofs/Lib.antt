pub mod Announced
pub mod Begun
pub mod Events
pub mod Linked
pub mod Replicas
pub use Rattle.pg_node_state.proofs.PgFrame
pub use Rattle.pg_node_state.proofs as PgNodeState
pub use Rattle.pg_node_state.proofs.PgNodeOpens
pub use Rattle.pg_node_state.proofs.PgNodeSends
