-- Document 02, Q-1: the ranges of a traction request, what is remembered of the requests, and when packet 61 is written.
pub mod Ranges
pub mod Requests
pub mod View
pub mod Sentences
pub mod Anchors
