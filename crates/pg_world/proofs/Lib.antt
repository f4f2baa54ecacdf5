mod Changed
mod Coming
pub mod Crossed
mod Cutting
mod Harmless
mod Linked
mod Passing
mod Past
mod Silent
mod over_bytes
pub use Rattle.pg_world_packets.proofs.PgFrame
pub use Rattle.pg_world_packets.proofs as PgWorldPackets
pub use Rattle.pg_world_packets.proofs.PgGroup
pub use Rattle.pg_world_packets.proofs.PgLaws
pub use Rattle.pg_world_packets.proofs.PgLawsLosses
pub use Rattle.pg_node.proofs as PgNode
pub use Rattle.pg_world_packets.proofs.PgNodeOpens
pub use Rattle.pg_world_packets.proofs.PgQuery
pub use Rattle.pg_world_packets.proofs.PgStep
