-- The laws by which what the commands on data say is determined, together.
use Rattle.esto_constraint.specs.Constraints.{rule_of}
use Rattle.esto_constraint.specs.declared.rule.Constraint.{Constraint}
use Rattle.esto_fill.specs.Laws.{AuditsAreOne, FactsAreOne, FillsAreOne, JudgementsAreOne, UnionAnswersAreOne}
use Rattle.esto_semantics.specs.Rules.{IsRule}
use Rattle.esto_run.specs.FragmentsAlike.{FragmentOpensAlike, FragmentsOpenAlike, StoresHaveOneContent, StoresHaveOneFault, StoresHaveOneFile}

-- Constraints are rules; the same files of fragments say the same; and what they say has one outcome each: facts,
-- answers, judgements, filled files and audits.
pub record DataLaws : Type 0 where
  pub rules : (constraint : Constraint) → IsRule (rule_of constraint)
  pub fragment : FragmentOpensAlike
  pub fragments : FragmentsOpenAlike
  pub file : StoresHaveOneFile
  pub fault : StoresHaveOneFault
  pub rows : StoresHaveOneContent
  pub facts : FactsAreOne
  pub answers : UnionAnswersAreOne
  pub judgements : JudgementsAreOne
  pub fills : FillsAreOne
  pub audits : AuditsAreOne
