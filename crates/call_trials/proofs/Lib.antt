pub mod Engines
pub mod Examples
