pub mod Arrows
pub mod Drawn
pub mod Escaping
pub mod Graphs
pub mod Lines
pub mod Pens
pub mod Rows
