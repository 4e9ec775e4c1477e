-- The class of HTTP by its parts, its conditions in order, and that locations that agree with Git are settled.
pub mod WebClassLemmas
pub mod ConditionLemmas
pub mod AgreementLemmas
