-- Document 01, "Player and trials": the events in the input, and the lines of each.
pub mod Calls
pub mod Lines
pub mod View
pub mod Anchors
