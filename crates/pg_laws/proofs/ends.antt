pub mod Apart
pub mod Finished
pub mod Fresh
pub mod Homes
pub mod Posts
pub mod Talk
