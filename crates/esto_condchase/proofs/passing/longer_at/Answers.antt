use Rattle.std.proofs.Common.{sym, subst, ◌∙◌}
use Rattle.std.proofs.lemmas.Result.{on_ok_weaker}
use Rattle.std.proofs.lemmas.Option.{same_Some}
use Rattle.esto_term.specs.Sets.{Within}
use Rattle.esto_chase_laws.specs.declared.entry.Entry.{Entry}
use Rattle.esto_condchase.proofs.passing.longer_at.Goals as goal

pub returns-in-Some-clause-grown : goal.returns-in-Some-clause-grown
returns-in-Some-clause-grown c = on_ok_weaker c.add_longer.result (λ grown. grown c.args.own.now c.args.goal.now c.in-Some.ensures.1) c.add_longer.ensures.grown

pub returns-in-Some-clause-goes : goal.returns-in-Some-clause-goes
returns-in-Some-clause-goes c = on_ok_weaker c.add_longer.result (λ goes set entry late at says within its_within. goes set within
    (subst (λ (it : Entry). Within it.product set) (same_Some entry _ (sym at ∙ c.in-Some.ensures.0)) its_within)) c.add_longer.ensures.goes
