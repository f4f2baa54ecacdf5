pub mod Clients
pub mod ClientsLaws
pub mod Clusters
pub mod Ended
pub mod Fault
pub mod Members
pub mod Notices
pub mod Promises
pub mod Room
pub mod Rows
pub mod Running
pub mod Seeds
pub mod Threads
pub use Rattle.pg_cluster_judges.specs as PgClusterJudges
pub use Rattle.pg_cluster_judges.specs.PgFrame
pub use Rattle.pg_cluster_judges.specs.PgGroup
pub use Rattle.pg_cluster_judges.specs.PgMessageTypes
pub use Rattle.pg_cluster_judges.specs.PgNode
pub use Rattle.pg_cluster_judges.specs.PgNodeRun
pub use Rattle.pg_cluster_judges.specs.PgNodeState
pub use Rattle.pg_ring.specs as PgRing
pub use Rattle.pg_cluster_judges.specs.PgStep
pub use Rattle.pg_cluster_judges.specs.PgTermIo
pub use Rattle.pg_cluster_judges.specs.PgWorldConfig
pub use Rattle.pg_cluster_judges.specs.PgWorldPackets
