-- Document 01, "States", in its order.
pub mod States
pub mod ControlGroup
pub mod Anchors
