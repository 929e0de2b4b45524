pub mod EntryLemmas
pub mod CallLemmas
pub mod SinkLemmas
pub mod ReadLemmas
pub mod LineLemmas
