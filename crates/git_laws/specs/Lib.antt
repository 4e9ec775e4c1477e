-- Public definitions.
pub mod GitWeb
pub mod GitClass
pub mod Components
pub mod ComponentEquality
pub mod Records
pub mod Order
pub mod Laws
pub mod AnswerLaws
pub mod ComponentLaws
pub mod OrderLaws
pub mod Safeguards
-- Examples of the definitions: each row is proved.
pub mod Examples
