pub mod NumberLaws
pub mod ListLaws
pub mod Anchors
