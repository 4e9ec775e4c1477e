-- The definitions that the examples for users cite.
pub mod Commands
pub mod Credentials
pub mod Policy
