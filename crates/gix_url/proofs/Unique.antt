-- Bytes spell at most one location.
pub mod ReaderLemmas
pub mod RefusalLemmas
