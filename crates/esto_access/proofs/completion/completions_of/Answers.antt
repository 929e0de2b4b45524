use Rattle.std.proofs.Common.{◌≡◌, ◌+◌, ◌∙◌, ap, sym, subst, length, arith}
use Rattle.std.proofs.lemmas.Bool.{false≢true}
use Rattle.esto_term.specs.Sets.{Covers}
use Rattle.esto_bits.specs.Kept.{Kept}
use Rattle.esto_access.proofs.NeedLemmas.{sets_there}
use Rattle.esto_access.proofs.CompleteLemmas.{AreCompletedBelow, completed_start, completed_grows, completed_stays, completed_end}
use Rattle.esto_access.proofs.completion.completions_of.Goals.{then-has+then-not-covered+in_ok-found-2, else-has, else-has-via-then-has+else-not-covered}
use Rattle.esto_access.proofs.completion.completions_of.Goals.{else-has-via-else-has}
use Rattle.esto_access.proofs.completion.completions_of.Goals as goal

pub numbers-init : goal.numbers-init
numbers-init c = (
  ap (λ (it : Kept). it.count) c.in_ok-found.ensures.value,
  completed_start c.args.supplies.now c.args.low.now c.in_ok-found.found.sets c.in_ok-found.ensures.covers,
)

pub covered-requires : goal.covered-requires
covered-requires c = sym (c.requires.supplies.counts c.numbers.number c.item.result.now c.item.ensures)

pub joined-requires : goal.joined-requires
joined-requires c =
    c.requires.supplies.counts c.numbers.number c.item-then-not-covered.result.now c.item-then-not-covered.ensures ∙ sym c.numbers.invariant.0

pub numbers-preserved : goal.numbers-preserved
numbers-preserved c = elim c.if-has.branch [
  | then-has+then-not-covered+in_ok-found-2 w ↦
      subst (λ (it : Kept). (it.count ≡ length c.args.low.now) × AreCompletedBelow c.args.supplies.now c.args.low.now (c.numbers.number + 1) it.sets)
      (sym w.found-is) (
        w.in_ok-found-2.ensures.count ∙ c.numbers.invariant.0,
        completed_grows c.args.supplies.now c.args.low.now c.numbers.number c.numbers.found.sets c.numbers.invariant.1 (c.has.ensures.0 w.if-has.true)
            w.item-then-not-covered.result.now w.item-then-not-covered.ensures
            w.in_ok-found-2.found.sets w.in_ok-found-2.ensures.covers,
      )
  | else-has w ↦
      subst (λ (it : Kept). (it.count ≡ length c.args.low.now) × AreCompletedBelow c.args.supplies.now c.args.low.now (c.numbers.number + 1) it.sets)
      (sym w.found-is) (
        c.numbers.invariant.0,
        completed_stays c.args.supplies.now c.args.low.now c.numbers.number c.numbers.found.sets c.numbers.invariant.1 (λ has. elim w.else-has.branch [
          | else-has-via-then-has+else-not-covered w' ↦
              subst (λ its. Covers its c.args.low.now) (sym (sets_there c.args.supplies.now c.numbers.number w'.item.result.now w'.item.ensures))
              (w'.covered.ensures.0 w'.if-not-covered.false)
          | else-has-via-else-has w' ↦ absurd (false≢true (sym w'.if-has.false ∙ c.has.ensures.1 has))
        ]),
      )
]

pub returns-clause-covers : goal.returns-clause-covers
returns-clause-covers c =
    completed_end c.args.supplies.now c.args.low.now c.requires.own c.numbers.number c.numbers.found.sets
    (omega (arith, c.numbers-test.false, c.count-number-end.ensures)) c.numbers.invariant.1
