pub mod AnyOwn
pub mod Bodies
pub mod Outcomes
pub mod Served
pub mod Streams
pub mod Taken
