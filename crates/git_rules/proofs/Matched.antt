-- Which places a pattern denotes, and which pattern is the best.
pub mod PathLemmas
pub mod LabelLemmas
pub mod RankLemmas
pub mod HostLemmas
pub mod PlaceLemmas
pub mod PickedLemmas
pub mod EntryLemmas
pub mod PlacedLemmas
pub mod OtherHostLemmas
