-- Lemmas by topic, lowest first.
pub mod Refusing
pub mod Cutting
