mod Listing
mod Printed
mod Sending
mod Widths
pub use Rattle.pg_world.proofs.PgWorldPackets
pub use Rattle.pg_script_lines.proofs as PgScriptLines
pub use Rattle.pg_world.proofs.PgNode
