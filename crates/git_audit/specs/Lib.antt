-- The definitions of the public contracts.
pub mod Misreadings
pub mod Dangers
pub mod Secrets
pub mod Left
pub mod SecretLaws
