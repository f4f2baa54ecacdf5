pub mod Ports
pub mod Same
pub use Rattle.pg_node_opens.specs.PgEnds
pub use Rattle.pg_node_opens.specs.PgExchange
pub use Rattle.pg_node_opens.specs.PgGroup
pub use Rattle.pg_node_opens.specs.PgLock
pub use Rattle.pg_node_opens.specs.PgMessageTypes
pub use Rattle.pg_node_opens.specs.PgMulticall
pub use Rattle.pg_node_opens.specs as PgNodeOpens
pub use Rattle.pg_node_opens.specs.PgQuery
pub use Rattle.pg_node_opens.specs.PgRefs
pub use Rattle.pg_node_opens.specs.PgStep
pub use Rattle.pg_node_opens.specs.PgTermIo
