-- Lemmas by topic, lowest first.
pub mod Entries
pub mod Rules
pub mod Remoted
pub mod Numbers
pub mod Allowed
pub mod Shell
pub mod Programs
pub mod NormalForms
pub mod Matched
pub mod Settled
pub mod Asked
