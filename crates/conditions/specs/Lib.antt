-- Document 01, "Nine conditions".
pub mod Conditions
pub mod Anchors
pub mod Sentences
