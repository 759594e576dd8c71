pub mod Event
pub mod Kinds
pub mod Events
pub mod View
pub mod Anchors
pub mod Sentences
