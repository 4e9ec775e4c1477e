-- Which entries of `http.*` Git uses for a place.
pub mod ListLemmas
pub mod TakenLemmas
pub mod UsedLemmas
pub mod AnswerLemmas
