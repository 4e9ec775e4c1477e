-- The parts of a text that are hidden.
pub mod MarkLemmas
pub mod ClassLemmas
pub mod CutLemmas
pub mod JoinLemmas
pub mod LeftLemmas
pub mod FindLemmas
pub mod FoundLemmas
pub mod OnlyLemmas
pub mod PlaceLemmas
pub mod RunLemmas
pub mod UrlLemmas
pub mod HiddenLemmas
pub mod ApartLemmas
pub mod KeepLemmas
pub mod SeamLemmas
pub mod TokenLemmas
