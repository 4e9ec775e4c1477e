-- Lemmas by topic.
pub mod Cuts
