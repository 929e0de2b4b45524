mod ReadLemmas
mod ZipLemmas
pub mod LinkLemmas
pub mod NumberLemmas
pub mod ClaimLemmas
pub mod WordLemmas
pub mod MatchLemmas
mod BeyondLemmas
mod JudgeLemmas
mod VerdictLemmas
mod WorldLemmas
mod ShowLemmas
mod OneLemmas
mod MoveLemmas
mod DeriveLemmas
mod NumeralLemmas
mod CourseLemmas
pub mod ExpansionLemmas
mod CompleteLemmas
