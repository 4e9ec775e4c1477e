-- Lemmas by topic.
pub mod Dangers
pub mod Secrets
