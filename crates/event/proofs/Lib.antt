pub mod Anchors
pub mod Known
pub mod Accepted
pub mod Adhesion
pub mod Sentences
pub mod Otherwise
