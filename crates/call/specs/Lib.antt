-- The meaning of a call.
pub mod Packets
pub mod Effect
pub mod Call
pub mod Shown
pub mod View
pub mod Trials
pub mod Anchors
