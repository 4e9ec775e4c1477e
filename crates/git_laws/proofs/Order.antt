-- Order and hash of values.
pub mod OrderLemmas
pub mod HashLemmas
