-- Which entries of `credential.*` Git uses for a request.
pub mod PartialLemmas
pub mod AppliedLemmas
pub mod TakenLemmas
pub mod AnswerLemmas
pub mod ElsewhereLemmas
