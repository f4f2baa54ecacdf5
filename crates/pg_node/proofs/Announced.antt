pub mod Faults
pub mod Lengths
pub mod Listings
pub mod Ordered
