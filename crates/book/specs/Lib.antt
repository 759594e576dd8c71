pub mod Book
pub mod Table
pub mod Anchors
pub mod Sentences
pub mod View
