pub mod Groups
pub mod Grown
pub mod Index
pub mod Listings
