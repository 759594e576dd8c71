pub mod Laws
pub mod Anchors
pub mod Sentences
