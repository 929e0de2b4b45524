-- Texts of which no two are the same.
use Rattle.std.proofs.Common.{◌≡◌, ◌≢◌, ℕ, List, ◌∷◌, refl, sym, subst}
use Rattle.std.specs.Prelude.{◌↔◌, Contains, AllPairs}
use Rattle.esto_term.proofs.ChoiceLemmas.{pairs_cons, pairs_head, pairs_tail}

module _ (texts rest others : List (List ℕ)) (first : List ℕ) (is : rest ≡ first ∷ others) (so_far : AllPairs ◌≢◌ rest ↔ AllPairs ◌≢◌ texts) where
  -- the first is not among the others
  pub distinct_more : ¬ Contains others first → AllPairs ◌≢◌ others ↔ AllPairs ◌≢◌ texts
  distinct_more not = (
    λ apart. so_far.0 (subst (AllPairs ◌≢◌) (sym is) (pairs_cons ◌≢◌ first others
        (λ other inside same. not (subst (Contains others) (sym same) inside)) apart)),
    λ apart. pairs_tail ◌≢◌ first others (subst (AllPairs ◌≢◌) is (so_far.1 apart)),
  )

  -- the first is among the others
  pub distinct_stop : Contains others first → ¬ AllPairs ◌≢◌ texts
  distinct_stop inside apart = pairs_head ◌≢◌ first others (subst (AllPairs ◌≢◌) is (so_far.1 apart)) first inside refl
