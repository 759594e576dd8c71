pub mod Accepted
pub mod Anchors
