pub mod Changed
pub mod Copies
pub mod Dropped
pub mod Grown
pub mod Listed
pub mod Numbers
pub mod Tables
