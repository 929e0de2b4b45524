use Rattle.std.proofs.Common.{◌≡◌, ◌↔◌, ◌+◌, ◌∙◌, IsTrue, Contains, sym, subst, length, arith}
use Rattle.std.proofs.lemmas.Bool.{false≢true}
use Rattle.std.proofs.lemmas.List.{length-map}
use Rattle.esto_views.specs.Plans.{fact_of}
use Rattle.esto_bits.specs.Kept.{Kept}
use Rattle.esto_access.proofs.NeedLemmas.{AreGivenBelow, given_start, given_grows, given_stays, given_end}
use Rattle.esto_access.proofs.needs.givers.Goals.{then-has_term+in_ok-add_all, else-has_term}
use Rattle.esto_access.proofs.needs.givers.Goals as goal

pub atoms-preserved : goal.atoms-preserved
atoms-preserved c =
    let told : IsTrue c.has_term.result ↔ Contains c.item.result.now.terms c.args.term.now =
    subst (λ terms. IsTrue c.has_term.result ↔ Contains terms c.args.term.now) c.items.ensures c.has_term.ensures in
    elim c.if-has_term.branch [
      | then-has_term+in_ok-add_all w ↦
          subst (λ (it : Kept). (it.count ≡ length c.args.plan.now.atoms) × AreGivenBelow c.args.plan.now.atoms c.args.supplies.now c.args.term.now
          (c.atoms.number + 1) it.sets) (sym w.found-is) (
            w.add_all.ensures.count ∙ c.atoms.invariant.0,
            given_grows c.args.plan.now.atoms c.args.supplies.now c.args.term.now c.atoms.number c.item.result.now c.item.ensures c.atoms.found.sets
                c.atoms.invariant.1 (told.0 w.if-has_term.true)
                w.item-then-has_term.result.now w.item-then-has_term.ensures w.add_all.new.self.sets w.in_ok-add_all.ensures.covers,
          )
      | else-has_term w ↦
          subst (λ (it : Kept). (it.count ≡ length c.args.plan.now.atoms) × AreGivenBelow c.args.plan.now.atoms c.args.supplies.now c.args.term.now
          (c.atoms.number + 1) it.sets) (sym w.found-is) (
            c.atoms.invariant.0,
            given_stays c.args.plan.now.atoms c.args.supplies.now c.args.term.now c.atoms.number c.item.result.now c.item.ensures c.atoms.found.sets
                c.atoms.invariant.1
                (λ occurs. false≢true (sym w.if-has_term.false ∙ told.1 occurs)),
          )
    ]

pub returns-clause-covers : goal.returns-clause-covers
returns-clause-covers c = given_end c.args.plan.now.atoms c.args.supplies.now c.args.term.now c.atoms.number c.atoms.found.sets
    (omega (arith, c.atoms-test.false, c.len-number-end.ensures)) c.atoms.invariant.1

pub atoms-init : goal.atoms-init
atoms-init c = (
  c.new-found.ensures.count ∙ c.len.ensures,
  given_start c.args.plan.now.atoms c.args.supplies.now c.args.term.now c.new-found.result.sets c.new-found.ensures.empty,
)

pub add_all-requires : goal.add_all-requires
add_all-requires c =
    c.requires.counts c.atoms.number c.item-then-has_term.result.now c.item-then-has_term.ensures ∙ length-map c.args.plan.now.atoms fact_of
    ∙ sym c.atoms.invariant.0

pub item-requires-then-has_term : goal.item-requires-then-has_term
item-requires-then-has_term c =
    omega (arith, c.requires.each, length-map c.args.plan.now.atoms fact_of, c.atoms-test.true, c.len-number-end.ensures)

pub item-requires : goal.item-requires
item-requires c = omega (arith, c.atoms-test.true, c.len-number-end.ensures)

pub returns-clause-count : goal.returns-clause-count
returns-clause-count c = c.atoms.invariant.0
