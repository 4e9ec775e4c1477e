-- Lemmas by topic, lowest first.
pub mod Texts
pub mod Addresses
pub mod Parsing
pub mod ByMasks
pub mod Unique
pub mod Errors
