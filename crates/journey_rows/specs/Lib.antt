pub mod Rows
pub mod Anchors
pub mod Sentences
