-- Texts and their bytes: cuts, escapes, plain texts, texts that need no escape.
pub mod UnescapedLemmas
