-- Public definitions.
pub mod Unambiguous
pub mod Conditions
pub mod Readers
pub mod ReaderLaws
pub mod KnownReaders
pub mod Groups
