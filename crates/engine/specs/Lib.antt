-- What the code's structs stand for, and laws of the parts of a call.
pub mod View
