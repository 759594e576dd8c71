pub mod Layout
pub mod Body
pub mod Anchors
