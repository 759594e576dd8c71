-- Rows of slippery rail: kind 15 and packet 64.
pub mod Constraints
pub mod Ranges
pub mod View
pub mod Anchors
