-- Lines and their answers: each answer is one line, and a text has one split into lines.
pub mod LineLemmas
