-- A journey and its book in bytes, calls, engines, and what the calls answer and leave.
pub mod Journey
pub mod Calls
pub mod Engines
pub mod Examples
