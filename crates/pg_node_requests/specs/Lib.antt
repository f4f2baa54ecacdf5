pub mod Layouts
pub mod Members
pub mod Replies
pub mod Requests
