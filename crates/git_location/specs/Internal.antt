-- Definitions for the proofs of this crate and of those above it.
pub mod KeptBytes
pub mod Pieces
pub mod Sinks
pub mod Fills
pub mod SettledPieces
