-- Whether a transport is allowed: lists of names, cut at their colons, the
-- last of the entries that set a key, and the decision.
pub mod ListedLemmas
pub mod DecisionLemmas
-- The entries of the section alone.
pub mod SectionLemmas
-- The transport of a text.
pub mod TransportLemmas
pub mod TransportLawLemmas
