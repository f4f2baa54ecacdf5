pub mod Happenings
pub mod Topics
pub mod Traces
pub mod Watched
pub use Rattle.pg_world.specs.PgWorldAccount
pub use Rattle.pg_world.specs.PgWorldConfig
pub use Rattle.pg_script_diagram.specs as PgScriptDiagram
pub use Rattle.pg_world.specs.PgWorldPackets
pub use Rattle.pg_world.specs.PgGroup
pub use Rattle.pg_world.specs.PgLaws
pub use Rattle.pg_script_lines.specs as PgScriptLines
pub use Rattle.pg_world.specs.PgNode
pub use Rattle.pg_world.specs.PgNodeState
pub use Rattle.pg_world.specs.PgStep
pub use Rattle.pg_text.specs as PgText
pub use Rattle.pg_world.specs as PgWorld
