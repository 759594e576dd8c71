pub mod Journey
pub mod Anchors
pub mod View
