pub mod Pairs
pub mod Sentences
pub mod Accepted
pub mod Whole
pub mod Anchors
