pub mod SameLemmas
pub mod LentLemmas
pub mod SortedLemmas
pub mod LeadLemmas
pub mod RisingLemmas
pub mod ToldLemmas
pub mod WantedLemmas
