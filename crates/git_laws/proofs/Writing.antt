-- The written text is read again as the same: pieces and their lengths, each piece of a URL, the other forms,
-- and settled locations whole.
pub mod WrittenPieces
pub mod PieceTextLemmas
pub mod WrittenUserLemmas
pub mod WrittenHostLemmas
pub mod WrittenWebHostLemmas
pub mod WrittenPathLemmas
pub mod WrittenUrlLemmas
pub mod KeptLemmas
pub mod WrittenScpLemmas
pub mod FileLemmas
pub mod AgainLemmas
pub mod StrippedLemmas
pub mod UnspelledLemmas
pub mod RereadLemmas
