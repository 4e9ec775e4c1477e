-- Masks of texts, and operations on vectors.
pub mod BitLemmas
pub mod JoinLemmas
pub mod LaneLemmas
pub mod CommonLemmas
pub mod SimpleLemmas
pub mod SimpleTextLemmas
