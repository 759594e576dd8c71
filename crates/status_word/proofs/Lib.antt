pub mod ConditionLaws
pub mod Anchors
pub mod Sentences
