-- Paths as ASCII and as pieces, home folders, paths that a resolver answered.
pub mod AsciiLemmas
pub mod PathLemmas
pub mod PathUniqueLemmas
pub mod HomeLemmas
pub mod HomeUniqueLemmas
pub mod CanonicalLemmas
