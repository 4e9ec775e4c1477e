-- Lemmas by topic, lowest first.
pub mod Resolved
pub mod Urls
pub mod Listed
pub mod ConfigFile
