-- The codes of document 01, "States", and the places "power" and "state" of its table of numbers.
pub mod Codes
pub mod Numbers
pub mod Anchors
