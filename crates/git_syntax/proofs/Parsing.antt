-- The grammar: forms, and for each reader that it finds exactly the parts that the text has.
pub mod FormLemmas
pub mod ClassifierLemmas
pub mod SchemeLemmas
pub mod SchemeRuleLemmas
pub mod LengthLemmas
pub mod HostLemmas
pub mod UrlLemmas
pub mod UrlLocationLemmas
pub mod ScpFrontLemmas
pub mod FoundLemmas
pub mod BufferLemmas
pub mod ScpLemmas
