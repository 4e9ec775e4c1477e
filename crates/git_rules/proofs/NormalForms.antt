-- The normal form of a URL: its escapes, its host and port, its path without dot segments, that it is one,
-- and that of a location of HTTP.
pub mod NormalTextLemmas
pub mod NormalHostLemmas
pub mod NormalCutLemmas
pub mod NormalPathLemmas
pub mod NormalUnique
pub mod NormalWebLemmas
