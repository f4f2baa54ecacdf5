pub mod Adds
pub mod Lists
pub mod PidsSaid
pub mod Walks
