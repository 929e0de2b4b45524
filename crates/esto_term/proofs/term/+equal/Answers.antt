use Rattle.std.proofs.Common.{◌++◌, ◌∷◌, [], length, refl, sym, ap, ◌∙◌, arith}
use Rattle.std.proofs.lemmas.Bool.{false≢true}
use Rattle.std.proofs.lemmas.Bool.Decides.{Decides-eqb}
use Rattle.std.proofs.lemmas.List.{take_all}
use Rattle.esto_term.proofs.EqualLemmas.{apart_Const_Plain, apart_Const_Made, apart_Plain_Made, apart_turned, tested, same_Const, same_Plain, same_Made}
use Rattle.esto_term.proofs.EqualLemmas.{apart_variables, apart_rules}
use Rattle.esto_term.proofs.PlaceLemmas.{same_read, take-item}
use Rattle.esto_term.proofs.term.+equal.Goals as goal

pub Term::equal-returns-in-Const-other : goal.Term::equal-returns-in-Const-other
Term::equal-returns-in-Const-other t c = same_Const _ _ _ _ _ c.in-Const.is c.in-Const-other.is
    (tested _ _ _ _ _ c.eq.ensures c.bytes.ensures.value c.bytes-in-Const-other.ensures.value)

pub Term::equal-returns-in-Plain-other : goal.Term::equal-returns-in-Plain-other
Term::equal-returns-in-Plain-other t c = apart_Const_Plain _ _ c.in-Const.text _ c.in-Const.is c.in-Plain-other.is

pub Term::equal-returns-in-Made-other : goal.Term::equal-returns-in-Made-other
Term::equal-returns-in-Made-other t c = apart_Const_Made _ _ c.in-Const.text _ _ _ c.in-Const.is c.in-Made-other.is

pub Term::equal-returns-in-Const-other-2 : goal.Term::equal-returns-in-Const-other-2
Term::equal-returns-in-Const-other-2 t c = apart_turned _ _ (apart_Const_Plain _ _ _ _ c.in-Const-other-2.is c.in-Plain.is)

pub Term::equal-returns-in-Plain-other-2 : goal.Term::equal-returns-in-Plain-other-2
Term::equal-returns-in-Plain-other-2 t c = same_Plain _ _ _ _ c.in-Plain.is c.in-Plain-other-2.is

pub Term::equal-returns-in-Made-other-2 : goal.Term::equal-returns-in-Made-other-2
Term::equal-returns-in-Made-other-2 t c = apart_Plain_Made _ _ _ _ _ _ c.in-Plain.is c.in-Made-other-2.is

pub Term::equal-returns-in-Const-other-3 : goal.Term::equal-returns-in-Const-other-3
Term::equal-returns-in-Const-other-3 t c = apart_turned _ _ (apart_Const_Made _ _ _ _ _ _ c.in-Const-other-3.is c.in-Made.is)

pub Term::equal-returns-in-Plain-other-3 : goal.Term::equal-returns-in-Plain-other-3
Term::equal-returns-in-Plain-other-3 t c = apart_turned _ _ (apart_Plain_Made _ _ _ _ _ _ c.in-Plain-other-3.is c.in-Made.is)

pub Term::equal-returns-then-variable-variable_b : goal.Term::equal-returns-then-variable-variable_b
Term::equal-returns-then-variable-variable_b t c =
    same_Made _ _ _ _ _ _ _ _ c.in-Made.is c.in-Made-other-3.is c.equal_terms.result c.items.result.now
    c.items-then-variable-variable_b.result.now c.if-rule-rule_b.true c.if-variable-variable_b.true c.items.ensures
    c.items-then-variable-variable_b.ensures c.equal_terms.ensures

pub Term::equal-returns-else-variable-variable_b : goal.Term::equal-returns-else-variable-variable_b
Term::equal-returns-else-variable-variable_b t c = (
  λ holds. absurd (c.if-variable-variable_b.false ((Decides-eqb _ _).0 holds)),
  λ same. absurd (apart_variables _ _ _ _ _ _ _ _ c.in-Made.is c.in-Made-other-3.is c.if-variable-variable_b.false same),
)

pub Term::equal-returns-else-rule-rule_b : goal.Term::equal-returns-else-rule-rule_b
Term::equal-returns-else-rule-rule_b t c = (
  λ holds. absurd (c.if-rule-rule_b.false ((Decides-eqb _ _).0 holds)),
  λ same. absurd (apart_rules _ _ _ _ _ _ _ _ c.in-Made.is c.in-Made-other-3.is c.if-rule-rule_b.false same),
)

pub equal_terms-returns-then-terms-others : goal.equal_terms-returns-then-terms-others
equal_terms-returns-then-terms-others t c = (λ never. absurd (false≢true never), λ same. absurd (c.if-terms-others.true (ap length same)))

pub equal_terms-returns-then-not-equal : goal.equal_terms-returns-then-not-equal
equal_terms-returns-then-not-equal t c = (
  λ never. absurd (false≢true never),
  λ same. absurd (false≢true (sym c.if-not-equal.true ∙ c.equal.ensures.1
      (same_read c.args.terms.now c.args.others.now c.terms.place _ _ c.terms-test.true c.index-terms-place.is c.index-others-place.is same))),
)

pub equal_terms-terms-preserved : goal.equal_terms-terms-preserved
equal_terms-terms-preserved t c =
    take-item c.args.terms.now c.terms.place _ c.terms-test.true c.index-terms-place.is
    ∙ (λ i. c.terms.invariant i ++ c.equal.ensures.0 c.if-not-equal.false i ∷ [])
    ∙ sym (take-item c.args.others.now c.terms.place _ (omega arith) c.index-others-place.is)

pub equal_terms-returns : goal.equal_terms-returns
equal_terms-returns t c = (
  λ _. sym (take_all c.terms.place c.args.terms.now c.terms-test.false) ∙ c.terms.invariant ∙ take_all c.terms.place c.args.others.now (omega arith),
  λ _. refl,
)
