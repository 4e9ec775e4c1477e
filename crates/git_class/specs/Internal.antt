-- Definitions for the proofs of this crate and of those above it.
pub mod WebPieces
