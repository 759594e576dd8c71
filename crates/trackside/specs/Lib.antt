-- Document 02, Q-6: skips by the trackside.
pub mod Trackside
pub mod View
pub mod Sentences
pub mod Anchors
