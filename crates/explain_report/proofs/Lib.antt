-- Lemmas by topic.
pub mod Secrets
pub mod Printed
pub mod Joined
