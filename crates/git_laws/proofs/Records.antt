-- Stored records.
pub mod RecordLemmas
