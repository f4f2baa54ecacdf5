pub mod Ends
pub mod Exploring
pub mod Inputs
pub mod Numbers
pub mod Offers
pub mod Seats
pub mod Telling
