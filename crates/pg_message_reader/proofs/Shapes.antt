pub mod Alike
pub mod Apart
pub mod AtomNames
pub mod Leaves
pub mod ListShapes
pub mod Rising
pub mod Shapes
pub mod Told
