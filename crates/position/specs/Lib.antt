-- Document 01, "Timing points": the known position, where a point stands, the stop of a name.
pub mod Position
pub mod Standing
pub mod Skips
pub mod Sample
pub mod Anchors
pub mod Sentences
