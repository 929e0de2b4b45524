pub mod HashLemmas
pub mod PlaceLemmas
pub mod BucketLemmas
pub mod NumberLemmas
pub mod TableLemmas
pub mod SpreadLemmas
pub mod RowOrderLemmas
