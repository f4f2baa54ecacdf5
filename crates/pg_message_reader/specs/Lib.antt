pub mod Names
pub mod Own
pub mod Shapes
pub mod Standing
