pub mod Uris
pub mod Kinds
pub mod Items
pub mod Entries
pub mod Wholes
pub mod Resolved
