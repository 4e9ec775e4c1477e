-- Components of a path: cut, borrowed, returned, compared.
pub mod SameLemmas
pub mod MeaningLemmas
pub mod FieldLemmas
pub mod BorrowLemmas
