pub mod OpeningLemmas
pub mod AlikeLemmas
pub mod RefusalLemmas
pub mod UnionLemmas
pub mod Steps
