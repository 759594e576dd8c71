pub mod ReaderLaws
pub mod Sure
pub mod Anchors
