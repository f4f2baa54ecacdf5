pub mod Dones
pub mod Framed
pub mod Frames
pub mod Going
pub mod Marked
pub mod Opening
pub mod Orders
pub mod Sendable
pub mod Sent
pub use Rattle.pg_message_writer.specs as PgMessageWriter
