-- The examples of the definitions, by computing or by giving the parts.
pub mod RowByteLemmas
pub mod RowFormLemmas
pub mod RowGitLemmas
pub mod RowOtherLemmas
