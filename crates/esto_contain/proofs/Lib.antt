pub mod ToldLemmas
pub mod NumberedLemmas
pub mod PartLemmas
pub mod MinimisedLemmas
pub mod AlikeLemmas
