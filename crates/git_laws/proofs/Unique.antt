-- Bytes spell what they spelled before the last form was added.
pub mod BeforeLemmas
