use Rattle.std.proofs.Common.{◌≡◌, ◌↔◌, ℕ, List, Bool, Option, Some, None, is_some, slice_get, inl, inr, refl, sym, ◌∙◌}
use Rattle.std.specs.Prelude.{Contains, IsTrue, MatchOption}
use Rattle.std.proofs.lemmas.Bool.{false≢true}
use Rattle.esto_term.proofs.ListLemmas.{Contains-at}
use Rattle.esto_term.specs.declared.term.Term.{Term}
use Rattle.esto_term.specs.declared.term.Term.TheVariants.{Const}
use Rattle.esto_steps.specs.Planned.{IsKnown}
use Rattle.esto_plan.proofs.planning.is_known.Goals as goal

known_by : (bound : List Term) (term : Term) (found : Option ℕ) (test : Bool) → ((text : List ℕ) → term ≡ Const text → ⊥)
    → MatchOption found (¬ (Contains bound term)) (λ place. slice_get bound place ≡ Some term) → test ≡ is_some found → IsTrue test ↔ IsKnown bound term
known_by bound term (Some place) test variable at is = (λ _. inr (Contains-at bound place term at), λ _. is)
known_by bound term None test variable absent is = (
  λ holds. absurd (false≢true (sym is ∙ holds)),
  λ known. elim known [
    | inl constant ↦ absurd (variable constant.0 constant.1)
    | inr among ↦ absurd (absent among)
  ],
)

pub returns-in-Const : goal.returns-in-Const
returns-in-Const c = (λ _. inl (c.in-Const.field-0, c.in-Const.is), λ _. refl)

pub returns : goal.returns
returns c = known_by c.args.bound.now c.args.term.now c.place_of.result c.is_some.result c.in_default.not-Const c.place_of.ensures c.is_some.ensures
