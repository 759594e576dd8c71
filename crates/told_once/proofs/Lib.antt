-- What was told as a story of the points; what one call tells; then the corollary.
pub mod Story
pub mod Reports
pub mod Packets
pub mod Calls
pub mod Names
pub mod ToldOnce
pub mod Example
