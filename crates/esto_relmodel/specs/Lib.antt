pub mod Once
pub mod RowFacts
pub mod Parts
