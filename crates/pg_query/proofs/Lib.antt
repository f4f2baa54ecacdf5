pub mod Listing
pub mod SameGroups
