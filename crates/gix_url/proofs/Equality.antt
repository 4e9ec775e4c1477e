-- Equality of bytes by their front and their back.
pub mod FrontLemmas
