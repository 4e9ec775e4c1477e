-- How URLs of submodules are resolved.
pub mod StepLemmas
pub mod LeftLemmas
pub mod ChopLemmas
pub mod RootLemmas
pub mod PlaceLemmas
pub mod LawLemmas
pub mod ScpLemmas
