-- The written text is read again as the same: pieces and their lengths, each piece of a URL, the other forms,
-- and settled locations whole.
pub mod PieceLemmas
pub mod LongestLemmas
pub mod DisplayLemmas
pub mod WrittenAsUrlLemmas
pub mod EscapedLemmas
