use Rattle.std.proofs.Common.{◌≡◌, ℕ, List, Contains, refl, sym, ◌∙◌, subst}
use Rattle.std.proofs.lemmas.Bool.{false≢true}
use Rattle.esto_term.proofs.ListLemmas.{Contains-read, holds_more, none_holds}
use Rattle.esto_mapping.proofs.columns.has_text.Goals as goal

pub returns-then-is_same : goal.returns-then-is_same
returns-then-is_same c = (
  (λ yes. subst (Contains c.args.texts.now) (c.is_same.ensures.0 c.if-is_same.true)
      (Contains-read c.args.texts.now c.texts.other-index c.other-item.result c.texts-test.true c.other-item.is)),
  (λ there. refl),
)

pub texts-preserved : goal.texts-preserved
texts-preserved c =
    holds_more (λ _ (other : List ℕ). other ≡ c.args.text.now → ⊥) c.args.texts.now c.texts.other-index c.other-item.result c.texts-test.true
    c.other-item.is c.texts.invariant (λ same. false≢true (sym c.if-is_same.false ∙ c.is_same.ensures.1 same))

pub returns : goal.returns
returns c = (
  (λ wrong. absurd (false≢true wrong)),
  (λ inside. absurd (none_holds (λ (other : List ℕ). other ≡ c.args.text.now) c.args.texts.now c.args.texts.now refl c.texts.other-index
      c.texts-test.false c.texts.invariant c.args.text.now inside refl)),
)
