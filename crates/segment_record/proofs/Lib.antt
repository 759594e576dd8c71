pub mod Takes
pub mod Behind
pub mod Accepted
pub mod Anchors
pub mod AtLeast
