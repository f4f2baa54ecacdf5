pub mod Clocks
pub mod Issued
pub mod NodeFault
pub mod Ports
pub mod Same
pub mod States
pub mod Waiting
pub use Rattle.pg_node_ports.specs.PgEnds
pub use Rattle.pg_node_ports.specs.PgExchange
pub use Rattle.pg_frame.specs as PgFrame
pub use Rattle.pg_node_ports.specs.PgGroup
pub use Rattle.pg_node_ports.specs.PgLock
pub use Rattle.pg_node_ports.specs.PgMessageTypes
pub use Rattle.pg_node_ports.specs.PgMulticall
pub use Rattle.pg_node_ports.specs as PgNodePorts
pub use Rattle.pg_node_ports.specs.PgNodeOpens
pub use Rattle.pg_node_ports.specs.PgQuery
pub use Rattle.pg_node_ports.specs.PgRefs
pub use Rattle.pg_node_sends.specs as PgNodeSends
pub use Rattle.pg_node_ports.specs.PgStep
pub use Rattle.pg_node_ports.specs.PgTermIo
pub use Rattle.pg_node_sends.specs.PgMessageWriter
