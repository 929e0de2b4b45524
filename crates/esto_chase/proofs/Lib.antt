pub mod MakingLemmas
pub mod NextLemmas
pub mod StepLemmas
pub mod ChaseLemmas
pub mod OutcomeLemmas
pub mod ClashLemmas
