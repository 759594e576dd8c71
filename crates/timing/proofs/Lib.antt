pub mod Laws
pub mod Steps
pub mod Rule
pub mod Moments
pub mod Changes
pub mod Anchors
pub mod Sentences
