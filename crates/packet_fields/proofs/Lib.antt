pub mod Anchors
