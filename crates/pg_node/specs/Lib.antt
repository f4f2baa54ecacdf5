pub mod Announced
pub mod Begun
pub mod Bytes
pub mod Links
pub mod Nodes
pub mod Replicas
pub use Rattle.pg_node_state.specs.PgEnds
pub use Rattle.pg_node_state.specs.PgFrame
pub use Rattle.pg_node_state.specs.PgGroup
pub use Rattle.pg_index.specs as PgIndex
pub use Rattle.pg_node_state.specs.PgMessageTypes
pub use Rattle.pg_node_state.specs.PgMulticall
pub use Rattle.pg_node_state.specs as PgNodeState
pub use Rattle.pg_node_state.specs.PgNodeOpens
pub use Rattle.pg_message_reader.specs as PgMessageReader
pub use Rattle.pg_ring.specs as PgRing
pub use Rattle.pg_node_state.specs.PgNodeSends
pub use Rattle.pg_node_state.specs.PgStep
pub use Rattle.pg_node_state.specs.PgTermIo
pub use Rattle.pg_node_state.specs.PgMessageWriter
