-- The examples of the definitions, by computing or by giving the parts.
pub mod RowOtherLemmas
