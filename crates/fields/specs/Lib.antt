pub mod Parse
pub mod View
pub mod Anchors
