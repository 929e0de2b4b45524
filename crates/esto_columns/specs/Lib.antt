pub mod CodedRows
pub mod Columns
pub mod Asked
pub mod Picked
pub mod Indexed
pub mod Interned
pub mod RowIndexes
