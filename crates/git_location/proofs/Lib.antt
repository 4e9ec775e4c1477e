-- Lemmas by topic, lowest first.
pub mod Texts
pub mod Unique
pub mod Writing
pub mod SettledClass
pub mod LineAnswers
pub mod Examples
