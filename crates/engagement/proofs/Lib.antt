pub mod Run
pub mod Engaged
pub mod Requests
pub mod Anchors
