-- Definitions for the proofs of this crate and of those above it.
pub mod Cuts
pub mod LengthChecks
pub mod HostPieces
pub mod Decoding
pub mod ByteClasses
pub mod UrlPieces
pub mod SchemeRules
pub mod FoundPieces
pub mod ScpPieces
pub mod Forms
pub mod Masks
pub mod SimplePieces
pub mod WhiteSpace
pub mod Runs
