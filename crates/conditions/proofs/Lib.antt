pub mod Laws
pub mod NineLaws
pub mod Anchors
pub mod Sentences
