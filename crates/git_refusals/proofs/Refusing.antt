-- Characters and escapes, the checks that find nothing, and the flaws that the others find in hosts and authorities.
pub mod CharacterLemmas
pub mod EscapeLemmas
pub mod PlaceLemmas
pub mod PassLemmas
pub mod FlawLemmas
-- The flaw that each check finds, or else the form of the piece.
pub mod HostLemmas
pub mod AuthorityLemmas
pub mod SchemeLemmas
pub mod UrlLemmas
pub mod FormLemmas
pub mod ScpLemmas
-- The texts that are refused: the flaw that the error names is there, so such a text spells no location.
pub mod UnspelledLemmas
