pub mod Arity
pub mod Depth
pub mod Fault
pub mod Order
pub mod RefParts
pub mod Same
pub mod Text
pub mod formers
