use Rattle.std.proofs.Common.{eqb, sym, ◌∙◌}
use Rattle.std.proofs.lemmas.Bool.Decides.{Decides-eqb}
use Rattle.esto_semantics.specs.Rules.{denial}
use Rattle.esto_coded.proofs.MeetLemmas.{whether_before, denial_answered}
use Rattle.esto_coded.proofs.coded.CodedFacts.meets_denial.Goals as goal

pub returns-clause-met : goal.returns-clause-met
returns-clause-met c =
    let told = Decides-eqb c.len.result 0 in
    whether_before (denial c.args.body.now) c.args.self.now c.answers_by_indexes.new.self (eqb c.len.result 0)
    c.answers_by_indexes.ensures.stays
    (denial_answered c.answers_by_indexes.new.self c.args.body.now c.in_ok-rows.rows.rows (eqb c.len.result 0) c.in_ok-rows.ensures.rows
    (λ empty. sym c.len.ensures ∙ told.0 empty, λ empty. told.1 (c.len.ensures ∙ empty)))
