-- What a call brings and answers, and the packets that it writes. Both the engine's meaning of a call and the rules are made from these; none
-- of them mentions an engine.
pub mod Call
pub mod Rows
pub mod Packets
pub mod View
pub mod Anchors
