-- Examples of the definitions: each row is proved.
pub mod ByteRows
pub mod GitRows
pub mod OtherRows
