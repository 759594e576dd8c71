pub mod Points
pub mod Anchors
pub mod Sentences
