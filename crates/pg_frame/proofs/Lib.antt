pub mod Bodies
mod Cut
pub mod Fronts
mod Moved
mod Read
pub mod Readings
