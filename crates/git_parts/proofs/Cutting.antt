-- The places of the parts of a location.
pub mod PartLemmas
pub mod PartLawLemmas
