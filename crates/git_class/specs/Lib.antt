-- Public definitions.
pub mod WebClass
pub mod WebConditions
pub mod GitClass
-- Definitions for the proofs of this crate and of those above it.
pub mod Internal
