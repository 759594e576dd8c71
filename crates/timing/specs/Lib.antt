-- Document 01, "Timing points", in its order; document 02, Q-3.
pub mod Distance
pub mod Load
pub mod Report
pub mod Changes
pub mod History
pub mod Rule
pub mod Anchors
pub mod Sentences
pub mod View
