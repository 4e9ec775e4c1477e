-- Lemmas by topic, lowest first.
pub mod Texts
pub mod Reading
