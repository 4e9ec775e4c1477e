-- The words of Secure Shell: the words that a shell reads in them, and that none is taken for an option.
pub mod QuoteLemmas
pub mod SafeLemmas
pub mod GivenLemmas
