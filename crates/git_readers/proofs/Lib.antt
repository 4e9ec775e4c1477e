-- Lemmas by topic, lowest first.
pub mod PartLemmas
pub mod NameLemmas
pub mod WebLemmas
pub mod ConditionLemmas
pub mod ReaderCuts
pub mod PlainBytes
pub mod ReaderUrls
pub mod ReaderTexts
pub mod ReaderLemmas
pub mod KnownLemmas
pub mod GroupLemmas
