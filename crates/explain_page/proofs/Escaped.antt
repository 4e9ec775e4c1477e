-- Texts in a page.
pub mod MarkupLemmas
