-- Public definitions.
pub mod Text
pub mod Settled
pub mod Readings
pub mod Display
pub mod ErrorText
pub mod Arguments
pub mod Safeguards
pub mod Views
pub mod UrlRef
pub mod Answers
-- Examples of the definitions: each row is proved.
pub mod Examples
-- Definitions for the proofs of this crate and of those above it.
pub mod Internal
