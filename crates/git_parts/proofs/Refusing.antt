-- Each check finds one place at most, and so a text has one refusal at most.
pub mod OneCheckLemmas
pub mod OneHostLemmas
pub mod OneLemmas
-- The place of a refusal is in the text.
pub mod WithinLemmas
-- The front of a URL that is too long names its refusal.
pub mod FrontLemmas
