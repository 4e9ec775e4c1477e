-- Lemmas by topic.
pub mod Escaped
