-- The place that Git reads in the text of a location of its class: exactly the location's own parts.
pub mod GitCutLemmas
pub mod GitPieceLemmas
pub mod GitTransportLemmas
pub mod WebTextLemmas
pub mod WebCredentialLemmas
pub mod WebUriLemmas
pub mod GitLemmas
pub mod WebUriUniqueLemmas
