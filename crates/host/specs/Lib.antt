-- Answers as plain structs; the version.
pub mod View
pub mod Version
pub mod Anchors
