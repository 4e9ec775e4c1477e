-- Texts and their bytes: cuts, escapes, plain texts, texts that need no escape.
pub mod CutLemmas
pub mod EscapeLemmas
pub mod EscapeSets
pub mod PlainLemmas
pub mod BlockLemmas
pub mod AsciiLemmas
pub mod DecodingLemmas
pub mod LookLemmas
pub mod WhiteSpaceLemmas
pub mod RunLemmas
pub mod DigitLemmas
