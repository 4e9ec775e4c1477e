-- The cuts of a text are unique, so that a text has one reading at most.
pub mod UniqueLemmas
-- The places that the transports reach, and the texts that have no reading.
pub mod TransportLemmas
pub mod UnreadLemmas
-- The requests that the credential code reads.
pub mod CredentialUniqueLemmas
pub mod CredentialLemmas
