pub mod Anchors
pub mod Filled
