pub mod LayoutLaws
pub mod BodyLaws
pub mod Anchors
