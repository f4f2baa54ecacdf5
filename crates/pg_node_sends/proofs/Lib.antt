pub mod Announcing
pub mod FrameLaws
pub mod Nobody
pub mod Sendables
pub mod Sent
pub mod Undone
pub mod Updates
