-- Keys, lines and the items that are read.
pub mod KeyLemmas
pub mod ItemLemmas
pub mod OneReadingLemmas
pub mod ListingLemmas
