pub mod fields
pub mod items
