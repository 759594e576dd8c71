pub mod Record
pub mod Anchors
pub mod View
