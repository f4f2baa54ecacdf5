pub mod Attempts
pub mod Commands
pub mod Config
pub mod Faults
pub mod FrameMachine
pub mod LossLaws
pub mod Losses
pub mod Machines
pub mod Nodes
pub mod Peers
pub mod PeersServed
pub mod SameAnswers
pub mod State
pub mod Step
pub mod StepLaws
pub mod Turns
pub use Rattle.pg_message_types.specs.PgGroup.Functions
pub use Rattle.pg_multicall.specs.Gathered
pub use Rattle.pg_exchange.specs.GroupList
pub use Rattle.pg_lock.specs.Locks
pub use Rattle.pg_refs.specs.Numbered
pub use Rattle.pg_ends.specs as PgEnds
pub use Rattle.pg_exchange.specs as PgExchange
pub use Rattle.pg_message_types.specs.PgGroup
pub use Rattle.pg_lock.specs as PgLock
pub use Rattle.pg_message_types.specs as PgMessageTypes
pub use Rattle.pg_multicall.specs as PgMulticall
pub use Rattle.pg_query.specs as PgQuery
pub use Rattle.pg_refs.specs as PgRefs
pub use Rattle.pg_message_types.specs.PgTermIo
pub use Rattle.pg_term.specs.RefParts
pub use Rattle.pg_term.specs.Same
pub use Rattle.pg_message_types.specs.PgGroup.Table
