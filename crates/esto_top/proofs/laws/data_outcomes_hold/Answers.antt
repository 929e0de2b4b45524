use Rattle.esto_top.proofs.DataLemmas.{outcomes_are_answers, outcomes_are_audits, outcomes_are_union_answers}
use Rattle.esto_top.proofs.laws.data_outcomes_hold.Goals as goal

pub returns-clause-fills : goal.returns-clause-fills
returns-clause-fills c = c.data_outcomes_are_exact.ensures.fills

pub returns-clause-answers : goal.returns-clause-answers
returns-clause-answers c = outcomes_are_answers c.data_outcomes_are_exact.ensures.answers

pub returns-clause-unions : goal.returns-clause-unions
returns-clause-unions c = outcomes_are_union_answers c.data_outcomes_are_exact.ensures.unions

pub returns-clause-audits : goal.returns-clause-audits
returns-clause-audits c = outcomes_are_audits c.data_outcomes_are_exact.ensures.audits
