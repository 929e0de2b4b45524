pub mod AtomLemmas
pub mod RunLemmas
pub mod RoundLemmas
pub mod NeedLemmas
pub mod SupplyLemmas
pub mod CompletionLemmas
pub mod CompleteLemmas
