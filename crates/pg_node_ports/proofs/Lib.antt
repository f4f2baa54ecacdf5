pub mod Answered
pub mod IdlePorts
pub mod Picked
pub mod SamePorts
pub use Rattle.pg_node_opens.proofs.PgExchange
pub use Rattle.pg_node_opens.proofs.PgGroup
pub use Rattle.pg_node_opens.proofs.PgMessageTypes
pub use Rattle.pg_node_opens.proofs as PgNodeOpens
pub use Rattle.pg_node_opens.proofs.PgQuery
pub use Rattle.pg_node_opens.proofs.PgStep
pub use Rattle.pg_node_opens.proofs.PgTermIo
