pub mod BothLemmas
pub mod SummaryLemmas
pub mod FragmentLemmas
pub mod CaseLemmas
pub mod CatalogueLemmas
pub mod ViewLemmas
pub mod PlanLemmas
pub mod RunLemmas
