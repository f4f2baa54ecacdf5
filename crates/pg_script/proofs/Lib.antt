pub mod Lists
pub mod Placing
mod Rounding
pub mod Walking
pub use Rattle.pg_script_trace.proofs.PgWorldPackets
