pub mod RowLemmas
pub mod PlanLemmas
pub mod OneLemmas
pub mod PlannedLemmas
