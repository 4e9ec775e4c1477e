-- The examples of the definitions, by giving the parts.
pub mod RowRunLemmas
