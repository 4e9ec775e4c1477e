-- Lemmas by topic, lowest first.
pub mod Unique
pub mod Errors
pub mod Writing
pub mod Order
pub mod Records
pub mod LineAnswers
pub mod SettledClass
pub mod ComponentCuts
pub mod GitReadings
pub mod Examples
