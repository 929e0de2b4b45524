pub mod SafetyLemmas
pub mod CandidateLemmas
pub mod VisitLemmas
pub mod FoundLemmas
pub mod PartLemmas
