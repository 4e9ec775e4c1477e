-- The parts of a text that are hidden.
pub mod MarkLemmas
pub mod ClassLemmas
pub mod CutLemmas
pub mod JoinLemmas
