-- Document 01, "Whole list": the values of a history, the rules over it, and the claim over every list of calls.
pub mod Values
pub mod Rules
pub mod Requests
pub mod Table
pub mod Calls
pub mod Recorded
pub mod WholeList
pub mod Creeping
pub mod TurnedDown
pub mod Held
pub mod Trackside
pub mod Slippery
pub mod Example
