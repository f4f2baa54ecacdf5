pub mod Ascents
pub mod ReadBack
pub mod Words
pub use Rattle.pg_group.proofs as PgGroup
pub use Rattle.pg_term_io.proofs as PgTermIo
