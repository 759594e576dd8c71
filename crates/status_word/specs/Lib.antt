pub mod Word
pub mod View
pub mod Anchors
pub mod Sentences
