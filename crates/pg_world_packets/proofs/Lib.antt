pub mod Answering
mod Applying
pub mod AtLosses
pub mod Barred
pub mod Coming
mod Copied
pub mod Counted
mod Dropped
pub mod Fitted
pub mod FormedSeen
pub mod Leading
pub mod Listed
mod LongGroups
pub mod Lossy
mod Messages
pub mod MissedSeen
mod NodesAlike
pub mod OneList
pub mod Opened
pub mod Ordered
pub mod OrderedOnce
pub mod Peering
pub mod Ported
mod Queued
pub mod Recording
pub mod Running
pub mod Seeing
pub mod SeenLosses
mod Sending
pub mod Sets
mod Shortened
pub mod Sighted
pub mod Starting
pub mod Stopped
mod Taking
pub mod Turning
pub mod Unlost
pub mod Viewing
pub use Rattle.pg_world_config.proofs as PgWorldConfig
pub use Rattle.pg_node_state.proofs.PgFrame
pub use Rattle.pg_node_state.proofs.PgGroup
pub use Rattle.pg_laws_losses.proofs.PgLaws
pub use Rattle.pg_laws_losses.proofs as PgLawsLosses
pub use Rattle.pg_node_state.proofs.PgNodeOpens
pub use Rattle.pg_node_state.proofs.PgQuery
pub use Rattle.pg_node_state.proofs.PgStep
