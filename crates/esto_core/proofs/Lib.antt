pub mod FixingLemmas
pub mod LeftLemmas
pub mod CoredLemmas
