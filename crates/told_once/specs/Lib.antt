-- What the packets 62 since the load in force tell of the journey's points: a corollary over every list of calls.
pub mod Recording
pub mod ToldOnce
pub mod Example
