-- Public definitions.
pub mod Kinds
pub mod Characters
pub mod Reasons
pub mod Promised
pub mod Laws
pub mod Words
-- Definitions for the proofs of this crate.
pub mod Internal
