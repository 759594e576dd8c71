-- What an event looks up before anything is stored.
pub mod LookUp
pub mod Anchors
