-- The lemmas that the proofs of functions cite.
pub mod CallLemmas
pub mod ComponentLemmas
pub mod EntryLemmas
pub mod PieceLemmas
pub mod ProblemLemmas
pub mod ReadingLemmas
pub mod SettingLemmas
pub mod BufferLemmas
pub mod ShownLemmas
