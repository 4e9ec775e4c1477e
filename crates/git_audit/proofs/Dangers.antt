-- The dangers of a text.
pub mod HostLemmas
