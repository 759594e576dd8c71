pub mod Placing
pub mod Table
pub mod Route
pub mod Limits
pub mod Anchors
pub mod Sentences
pub mod View
