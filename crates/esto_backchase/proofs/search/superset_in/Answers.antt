use Rattle.std.proofs.Common.{inl, inr, sym, ◌∙◌, arith}
use Rattle.std.proofs.lemmas.Bool.{cases_order, false≢true}
use Rattle.std.proofs.lemmas.Option.{slice_get_within}
use Rattle.esto_term.proofs.ListLemmas.{Contains-at}
use Rattle.esto_backchase.proofs.VisitLemmas.{not_superset}
use Rattle.esto_backchase.proofs.search.superset_in.Goals as goal

pub within-requires : goal.within-requires
within-requires c = sym (c.requires c.item.result.now (Contains-at c.args.sets.now c.sets.place c.item.result.now c.item.ensures))

pub sets-preserved : goal.sets-preserved
sets-preserved c earlier below = elim (cases_order earlier c.sets.place) [
  | inl same ↦
      not_superset c.args.sets.now c.args.set.now c.sets.place c.item.result.now c.item.ensures
      (λ within. false≢true (sym c.if-within.false ∙ c.within.ensures.1 within)) earlier same
  | inr apart ↦ elim apart [ inl before ↦ c.sets.invariant earlier before | inr after ↦ absurd (omega (arith, below, after)) ]
]

pub returns : goal.returns
returns c place (other, at, within) =
    c.sets.invariant place (omega (arith, slice_get_within c.args.sets.now place other at, c.sets-test.false, c.len-place-end.ensures)) (other, at, within)

pub returns-then-within : goal.returns-then-within
returns-then-within c = ((c.item.result.now, c.item.ensures, c.within.ensures.0 c.if-within.true), c.sets.invariant)
