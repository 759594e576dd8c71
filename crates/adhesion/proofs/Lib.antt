pub mod Laws
pub mod Anchors
pub mod Ranges
