-- Public definitions.
pub mod Parts
pub mod Fronts
-- Definitions for the proofs of this crate.
pub mod Internal
