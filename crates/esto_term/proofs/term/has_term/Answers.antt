use Rattle.std.proofs.Common.{◌≡◌, ◌∙◌, Contains, refl, sym, subst}
use Rattle.std.proofs.lemmas.Bool.{false≢true}
use Rattle.esto_term.proofs.ListLemmas.{Contains-read, holds_more, none_holds}
use Rattle.esto_term.proofs.term.has_term.Goals as goal

pub returns-then-equal : goal.returns-then-equal
returns-then-equal c = (
  λ _. subst (Contains c.args.terms.now) (c.equal.ensures.0 c.if-equal.true)
      (Contains-read c.args.terms.now c.terms.other-index c.other-item.result c.terms-test.true c.other-item.is),
  λ _. refl,
)

pub terms-preserved : goal.terms-preserved
terms-preserved c =
    holds_more (λ _ other. other ≡ c.args.term.now → ⊥) c.args.terms.now c.terms.other-index c.other-item.result c.terms-test.true c.other-item.is
    c.terms.invariant (λ same. false≢true (sym c.if-equal.false ∙ c.equal.ensures.1 same))

pub returns : goal.returns
returns c = (
  λ never. absurd (false≢true never),
  λ has. absurd (none_holds (λ other. other ≡ c.args.term.now) c.args.terms.now c.args.terms.now refl c.terms.other-index c.terms-test.false c.terms.invariant
      c.args.term.now has refl),
)
