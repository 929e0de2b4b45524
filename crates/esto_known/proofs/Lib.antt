pub mod DoneLemmas
mod HashLemmas
mod IndexLemmas
mod GroupLemmas
pub mod LiveLemmas
mod TurnLemmas
pub mod CoverLemmas
pub mod TellLemmas
pub mod TouchLemmas
