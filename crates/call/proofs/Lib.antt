pub mod Computed
pub mod Trials
pub mod Rows
pub mod Sizes
pub mod Anchors
