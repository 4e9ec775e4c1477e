-- A text spells no location exactly if it has a flaw, and no settled location is an exception.
pub mod RefusalLemmas
