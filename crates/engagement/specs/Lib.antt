pub mod Engagement
pub mod Anchors
