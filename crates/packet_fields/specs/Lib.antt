pub mod View
pub mod Anchors
