-- A text spells no location exactly if it has a flaw, and no settled location is an exception.
pub mod TextDecisions
pub mod HostDecisions
pub mod UrlDecisions
pub mod FormDecisions
pub mod ExceptionLemmas
