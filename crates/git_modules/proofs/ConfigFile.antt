-- The reading of configuration files.
pub mod ReadLemmas
pub mod PlaceLemmas
pub mod LineEndLemmas
pub mod PartLemmas
pub mod LawLemmas
pub mod ProgressLemmas
pub mod NameLemmas
