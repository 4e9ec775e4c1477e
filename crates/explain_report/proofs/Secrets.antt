-- The shown parts of a text.
pub mod PieceLemmas
