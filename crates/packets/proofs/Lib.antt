pub mod PacketLaws
pub mod RoundTrips
pub mod Cutting
pub mod ConditionLaws
pub mod Anchors
pub mod Sentences
