-- Document 02, Q-5: held at a stop.
pub mod Hold
pub mod Anchors
