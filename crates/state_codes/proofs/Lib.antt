pub mod Anchors
pub mod CodeLaws
