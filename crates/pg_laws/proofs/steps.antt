pub mod Grows
pub mod Lasting
pub mod Lossless
pub mod Made
pub mod Queries
pub mod RealTime
pub mod Single
pub mod Ways
