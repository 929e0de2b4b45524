use Rattle.std.proofs.Common.{arith, sym, ◌∙◌}
use Rattle.std.specs.Ordering.{nat_cmp}
use Rattle.std.specs.Cmp.Lexicographic.{slice_cmp}
use Rattle.esto_term.specs.Order.{term_cmp}
use Rattle.esto_term.proofs.CompareLemmas.{kinds_answer, term_cmp-Const-Const, term_cmp-Const-Plain, term_cmp-Const-Made, term_cmp-Plain-Const}
use Rattle.esto_term.proofs.CompareLemmas.{term_cmp-Plain-Plain, term_cmp-Plain-Made, term_cmp-Made-Const, term_cmp-Made-Plain, term_cmp-Made-Made}
use Rattle.esto_term.proofs.WalkLemmas.{rests-longer, rests-end, rests-decided, rests-alike}
use Rattle.esto_term.proofs.term.+compare.Goals as goal

pub Term::compare-returns-in-Const-other : goal.Term::compare-returns-in-Const-other
Term::compare-returns-in-Const-other t c = kinds_answer _ _ _ _ _ c.in-Const.is c.in-Const-other.is
    (term_cmp-Const-Const _ _ ∙ sym (c.cmp.ensures ∙ (λ i. slice_cmp nat_cmp (c.bytes.ensures.value i) (c.bytes-in-Const-other.ensures.value i))))

pub Term::compare-returns-in-Plain-other : goal.Term::compare-returns-in-Plain-other
Term::compare-returns-in-Plain-other t c = kinds_answer _ _ _ _ _ c.in-Const.is c.in-Plain-other.is (term_cmp-Const-Plain _ _)

pub Term::compare-returns-in-Made-other : goal.Term::compare-returns-in-Made-other
Term::compare-returns-in-Made-other t c = kinds_answer _ _ _ _ _ c.in-Const.is c.in-Made-other.is (term_cmp-Const-Made _ _ _ _)

pub Term::compare-returns-in-Const-other-2 : goal.Term::compare-returns-in-Const-other-2
Term::compare-returns-in-Const-other-2 t c = kinds_answer _ _ _ _ _ c.in-Plain.is c.in-Const-other-2.is (term_cmp-Plain-Const _ _)

pub Term::compare-returns-in-Plain-other-2 : goal.Term::compare-returns-in-Plain-other-2
Term::compare-returns-in-Plain-other-2 t c =
    kinds_answer _ _ _ _ _ c.in-Plain.is c.in-Plain-other-2.is (term_cmp-Plain-Plain _ _ ∙ sym c.cmp-in-Plain-other-2.ensures)

pub Term::compare-returns-in-Made-other-2 : goal.Term::compare-returns-in-Made-other-2
Term::compare-returns-in-Made-other-2 t c = kinds_answer _ _ _ _ _ c.in-Plain.is c.in-Made-other-2.is (term_cmp-Plain-Made _ _ _ _)

pub Term::compare-returns-in-Const-other-3 : goal.Term::compare-returns-in-Const-other-3
Term::compare-returns-in-Const-other-3 t c = kinds_answer _ _ _ _ _ c.in-Made.is c.in-Const-other-3.is (term_cmp-Made-Const _ _ _ _)

pub Term::compare-returns-in-Plain-other-3 : goal.Term::compare-returns-in-Plain-other-3
Term::compare-returns-in-Plain-other-3 t c = kinds_answer _ _ _ _ _ c.in-Made.is c.in-Plain-other-3.is (term_cmp-Made-Plain _ _ _ _)

pub Term::compare-returns-in-Made-other-3 : goal.Term::compare-returns-in-Made-other-3
Term::compare-returns-in-Made-other-3 t c =
    let chain =
    term_cmp-Made-Made c.in-Made.rule c.in-Made.variable c.in-Made.frontier
    c.in-Made-other-3.rule_b c.in-Made-other-3.variable_b c.in-Made-other-3.frontier_b in
    cc

pub compare_terms-returns-then-place-others : goal.compare_terms-returns-then-place-others
compare_terms-returns-then-place-others t c =
    sym (rests-longer term_cmp _ _ _ c.index-terms-place.result c.terms-test.true c.if-place-others.true) ∙ c.terms.invariant.rests

pub compare_terms-returns-then-is_ne : goal.compare_terms-returns-then-is_ne
compare_terms-returns-then-is_ne t c =
    sym
    (rests-decided term_cmp _ _ _ _ _ _ c.terms-test.true (omega arith) c.index-terms-place.is c.index-others-place.is c.compare-order.ensures
    (sym c.is_ne.ensures ∙ c.if-is_ne.true))
    ∙ c.terms.invariant.rests

pub compare_terms-terms-preserved : goal.compare_terms-terms-preserved
compare_terms-terms-preserved t c = record {
  within = omega arith;
  rests =
      rests-alike term_cmp _ _ _ _ _ _ c.terms-test.true (omega arith) c.index-terms-place.is c.index-others-place.is c.compare-order.ensures
      (sym c.is_ne.ensures ∙ c.if-is_ne.false)
      ∙ c.terms.invariant.rests;
}

pub compare_terms-returns : goal.compare_terms-returns
compare_terms-returns t c =
    c.cmp.ensures ∙ sym (rests-end term_cmp _ _ _ c.terms-test.false (omega arith) c.terms.invariant.within) ∙ c.terms.invariant.rests
