-- Public definitions.
pub mod Location
pub mod Bytes
pub mod Escapes
pub mod Addresses
pub mod Hosts
pub mod Schemes
pub mod Authority
pub mod Grammar
pub mod SimpleTexts
pub mod AddressTest
pub mod Flaws
pub mod ErrorText
pub mod Refusals
pub mod Safeguards
pub mod Views
-- Definitions for the proofs of this crate and of those above it.
pub mod Internal
