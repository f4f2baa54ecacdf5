pub mod Judging
pub mod Lost
pub mod Machines
pub mod Once
pub mod Peering
pub mod Peers
pub mod Queries
pub mod Refusals
pub mod Replies
pub mod Rounds
pub mod Unnoticed
pub use Rattle.pg_exchange.proofs as PgExchange
pub use Rattle.pg_message_types.proofs.PgGroup
pub use Rattle.pg_message_types.proofs as PgMessageTypes
pub use Rattle.pg_query.proofs as PgQuery
pub use Rattle.pg_message_types.proofs.PgTermIo
