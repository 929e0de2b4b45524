use Rattle.std.proofs.Common.{◌≡◌, Some, slice_get, Contains, ap, sym, subst, ◌∙◌}
use Rattle.std.proofs.lemmas.Bool.{false≢true}
use Rattle.std.proofs.lemmas.Option.{slice_get-get_or}
use Rattle.esto_term.proofs.ListLemmas.{place-from_Contains}
use Rattle.esto_term.proofs.ListLemmas.{holds_more, holds_all}
use Rattle.esto_steps.specs.Planned.{CanMeet}
use Rattle.esto_plan.proofs.planning.first_met.Goals as goal

pub returns-then-can_meet : goal.returns-then-can_meet
returns-then-can_meet c =
    let at : slice_get c.args.patterns.now c.patterns.number ≡ Some c.access-item.result =
    subst (λ them. slice_get them c.patterns.number ≡ Some c.access-item.result) c.items-access-items.ensures
    (slice_get-get_or c.items-access-items.result.now c.patterns.number c.access-item.result c.patterns-test.true ∙ ap Some (sym c.access-item.is)) in (
      c.access-item.result,
      at,
      (
        c.patterns.number,
        at,
        c.can_meet.ensures.0 c.if-can_meet.true,
        λ lesser other below there. c.patterns.invariant lesser other below
            (subst (λ them. slice_get them lesser ≡ Some other) (sym c.items-access-items.ensures) there),
      ),
    )

pub patterns-preserved : goal.patterns-preserved
patterns-preserved c =
    holds_more (λ _ pattern. ¬ (CanMeet c.args.bound.now c.args.terms.now pattern)) c.items-access-items.result.now c.patterns.number c.access-item.result
    c.patterns-test.true c.access-item.is c.patterns.invariant
    (λ can. false≢true (sym c.if-can_meet.false ∙ c.can_meet.ensures.1 can))

pub returns : goal.returns
returns c = λ pattern among. let at =
    place-from_Contains c.items-access-items.result.now pattern (subst (λ them. Contains them pattern) (sym c.items-access-items.ensures) among) in
    holds_all (λ _ pattern. ¬ (CanMeet c.args.bound.now c.args.terms.now pattern)) c.items-access-items.result.now c.patterns.number c.patterns-test.false
    c.patterns.invariant at.0 pattern at.1
