-- Lemmas by topic, lowest first.
pub mod Classes
