-- The lemmas that the proofs of functions cite.
pub mod ConditionLemmas
