pub mod Stores
pub mod WriterLaws
