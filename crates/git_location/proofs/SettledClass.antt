-- Locations that were read have a text and are settled, with exceptions; of four
-- kinds only settled ones come back.
pub mod SettledLemmas
pub mod UnchangedLemmas
pub mod SimpleTextLemmas
pub mod FrontLemmas
