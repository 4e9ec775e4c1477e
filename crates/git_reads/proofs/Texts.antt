-- Escapes, ports and hosts in brackets as Git reads them.
pub mod DecodeLemmas
pub mod PortLemmas
pub mod PlaceLemmas
