-- The written text is read again as the same: pieces and their lengths, each piece of a URL, the other forms,
-- and settled locations whole.
pub mod FromPartsLemmas
pub mod OwnedLemmas
