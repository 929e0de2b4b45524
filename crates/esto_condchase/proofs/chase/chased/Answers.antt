use Rattle.std.proofs.Common.{sym, subst}
use Rattle.std.proofs.lemmas.Result.{on_ok_weaker}
use Rattle.esto_constraint.specs.Constraints.{rules_of}
use Rattle.esto_chase_laws.specs.Derived.{AreDerived, AreNew}
use Rattle.esto_chase_laws.specs.WorldLaws.{AreGiven}
use Rattle.esto_chase_laws.specs.WorldSteps.{AreAnswered, AreJoined}
use Rattle.esto_chase_laws.specs.Worlds.{AreOfCount}
use Rattle.esto_known.proofs.DoneLemmas.{handed_on}
use Rattle.esto_condchase.proofs.chase.chased.Goals as goal

pub returns-clause-derived : goal.returns-clause-derived
returns-clause-derived c = handed_on c.rounds-ended.result c.into_list.result c.and.result c.and.ensures _
    (on_ok_weaker c.rounds-ended.result (subst (AreDerived c.args.facts.now (rules_of c.args.rules.now)) (sym c.into_list.ensures))
    c.rounds-ended.ensures.derived)

pub returns-clause-new : goal.returns-clause-new
returns-clause-new c = handed_on c.rounds-ended.result c.into_list.result c.and.result c.and.ensures _
    (on_ok_weaker c.rounds-ended.result (subst AreNew (sym c.into_list.ensures)) c.rounds-ended.ensures.new)

pub returns-clause-counted : goal.returns-clause-counted
returns-clause-counted c = handed_on c.rounds-ended.result c.into_list.result c.and.result c.and.ensures _
    (on_ok_weaker c.rounds-ended.result (subst (AreOfCount c.args.atoms) (sym c.into_list.ensures)) c.rounds-ended.ensures.counted)

pub returns-clause-given : goal.returns-clause-given
returns-clause-given c = handed_on c.rounds-ended.result c.into_list.result c.and.result c.and.ensures _
    (on_ok_weaker c.rounds-ended.result (subst (AreGiven c.args.facts.now) (sym c.into_list.ensures)) c.rounds-ended.ensures.given)

pub returns-clause-answered : goal.returns-clause-answered
returns-clause-answered c = handed_on c.rounds-ended.result c.into_list.result c.and.result c.and.ensures _
    (on_ok_weaker c.rounds-ended.result (subst (λ it. AreAnswered (rules_of c.args.rules.now) it it) (sym c.into_list.ensures))
    c.rounds-ended.ensures.answered)

pub returns-clause-joined : goal.returns-clause-joined
returns-clause-joined c = handed_on c.rounds-ended.result c.into_list.result c.and.result c.and.ensures _
    (on_ok_weaker c.rounds-ended.result (subst (λ it. AreJoined it it) (sym c.into_list.ensures)) c.rounds-ended.ensures.joined)
