-- Examples of the definitions: each row is proved.
pub mod RunRows
