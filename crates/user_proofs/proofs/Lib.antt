-- Lemmas of the examples for users.
pub mod PickedLemmas
