pub mod Laws
pub mod Sentences
pub mod Anchors
