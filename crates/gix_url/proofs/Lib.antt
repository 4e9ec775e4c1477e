-- Lemmas by topic, lowest first.
pub mod Unique
pub mod Writing
pub mod Equality
pub mod ComponentCuts
pub mod Homes
pub mod Examples
