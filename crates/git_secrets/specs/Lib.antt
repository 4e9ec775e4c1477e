-- The definitions of the public contracts.
pub mod Tokens
pub mod Secrets
pub mod Left
pub mod Laws
pub mod OnlyLaws
pub mod PasswordLaws
pub mod TokenLaws
