-- The pieces that are cut into parts.
pub mod Pieces
