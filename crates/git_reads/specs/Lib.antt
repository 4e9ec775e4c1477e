-- Public definitions.
pub mod Git
pub mod Unread
pub mod Credentials
pub mod Views
-- Definitions for the proofs of this crate.
pub mod Internal
pub mod Transports
