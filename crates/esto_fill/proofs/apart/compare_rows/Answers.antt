use Rattle.std.proofs.Common.{arith, sym, ◌∙◌}
use Rattle.std.specs.Ordering.{nat_cmp}
use Rattle.std.specs.Cmp.Lexicographic.{slice_cmp}
use Rattle.esto_term.proofs.WalkLemmas.{rests-longer, rests-end, rests-decided, rests-alike}
use Rattle.esto_fill.proofs.apart.compare_rows.Goals as goal

pub returns-then-place-other : goal.returns-then-place-other
returns-then-place-other c =
    sym (rests-longer (slice_cmp nat_cmp) _ _ _ c.index-row-place.result c.texts-test.true c.if-place-other.true) ∙ c.texts.invariant.rests

pub returns-then-is_ne : goal.returns-then-is_ne
returns-then-is_ne c =
    sym
    (rests-decided (slice_cmp nat_cmp) _ _ _ _ _ _ c.texts-test.true (omega arith) c.index-row-place.is c.index-other-place.is
    (c.cmp-order.ensures ∙ (λ i. slice_cmp nat_cmp (c.bytes.ensures.value i) (c.bytes-in-texts.ensures.value i)))
    (sym c.is_ne.ensures ∙ c.if-is_ne.true))
    ∙ c.texts.invariant.rests

pub texts-preserved : goal.texts-preserved
texts-preserved c = record {
  within = omega arith;
  rests =
      rests-alike (slice_cmp nat_cmp) _ _ _ _ _ _ c.texts-test.true (omega arith) c.index-row-place.is c.index-other-place.is
      (c.cmp-order.ensures ∙ (λ i. slice_cmp nat_cmp (c.bytes.ensures.value i) (c.bytes-in-texts.ensures.value i)))
      (sym c.is_ne.ensures ∙ c.if-is_ne.false)
      ∙ c.texts.invariant.rests;
}

pub returns : goal.returns
returns c =
    c.cmp.ensures ∙ sym (rests-end (slice_cmp nat_cmp) _ _ _ c.texts-test.false (omega arith) c.texts.invariant.within) ∙ c.texts.invariant.rests
