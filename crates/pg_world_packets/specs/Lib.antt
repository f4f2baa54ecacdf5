pub mod Alike
pub mod Effects
pub mod Fitting
pub mod FrameWorlds
pub mod Losing
pub mod Openings
pub mod Past
pub mod Pending
pub mod Runs
pub mod Sameness
pub mod Short
pub mod Starts
pub mod Views
pub mod Worlds
pub use Rattle.pg_world_account.specs as PgWorldAccount
pub use Rattle.pg_world_config.specs as PgWorldConfig
pub use Rattle.pg_node_state.specs.PgEnds
pub use Rattle.pg_node_state.specs.PgExchange
pub use Rattle.pg_node_state.specs.PgFrame
pub use Rattle.pg_node_state.specs.PgGroup
pub use Rattle.pg_laws_losses.specs.PgLaws
pub use Rattle.pg_index.specs as PgIndex
pub use Rattle.pg_node_state.specs.PgLock
pub use Rattle.pg_laws_losses.specs as PgLawsLosses
pub use Rattle.pg_node_state.specs.PgMessageTypes
pub use Rattle.pg_node_state.specs as PgNodeState
pub use Rattle.pg_node_state.specs.PgNodeOpens
pub use Rattle.pg_node_state.specs.PgQuery
pub use Rattle.pg_ring.specs as PgRing
pub use Rattle.pg_node_state.specs.PgNodeSends
pub use Rattle.pg_node_state.specs.PgStep
pub use Rattle.pg_node_state.specs.PgTermIo
pub use Rattle.pg_node_state.specs.PgMessageWriter
