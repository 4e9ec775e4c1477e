-- Remotes: the values of their entries, and their URLs.
pub mod ValueLemmas
pub mod UrlLemmas
pub mod UniqueLemmas
