pub mod OneListLemmas
pub mod PlanMovedLemmas
pub mod ChoiceLemmas
pub mod PlanAlikeLemmas
pub mod PrintedLemmas
mod NamingLemmas
mod JudgeLemmas
mod AskedLemmas
pub mod ExplainLemmas
pub mod CertifiedLemmas
pub mod TextLemmas
pub mod ZipLemmas
pub mod OneLemmas
pub mod UnionMovedLemmas
pub mod TellLemmas
pub mod UnionExactLemmas
pub mod PickingLemmas
pub mod RunLemmas
pub mod RunAskedLemmas
pub mod AnswerLemmas
pub mod RunMovedLemmas
pub mod RunOneLemmas
pub mod RunExactLemmas
