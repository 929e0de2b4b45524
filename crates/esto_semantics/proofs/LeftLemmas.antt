-- What is left of a plan.
use Rattle.std.proofs.Common.{◌≡◌, inl, inr, suc, Bool, true, false, List, [], ◌∷◌, ◌++◌, length, Contains, refl, sym, ap, ◌∙◌, subst}
use Rattle.esto_term.specs.declared.term.Term.{Term}
use Rattle.esto_semantics.specs.Listed.{chosen}
use Rattle.esto_semantics.specs.declared.fact.Fact.{Fact}
use Rattle.esto_term.proofs.ListLemmas.{Contains-cases, Contains-head, Contains-rest}
use Rattle.esto_semantics.proofs.MapsToLemmas.{MapsTo-then, retracts-among}
use Rattle.esto_semantics.specs.Cores.{with_head, Retracts, IsCore, IsLeft, AreLeft}
use Rattle.esto_term.proofs.DistinctLemmas.{after_push, split_more}

module _ (head : List Term) where
  retracts-then : (first second third : List (Fact Term)) → Retracts head first second → Retracts head second third → Retracts head first third
  retracts-then first second third = MapsTo-then (with_head head first) (with_head head second) (with_head head third)

  -- ---- what is left

  -- the atoms retract into what is left of them
  pub left-retracts : (before atoms left : List (Fact Term)) → AreLeft head before atoms left → Retracts head (before ++ atoms) (before ++ left)
  left-retracts before [] left is =
      retracts-among head (before ++ []) (before ++ left) (λ atom inside. subst (λ rest. Contains (before ++ rest) atom) (sym is) inside)
  left-retracts before (atom ∷ atoms) left (after, rest, here) =
      let further : Retracts head (before ++ atom ∷ atoms) (before ++ atom ∷ after) =
      subst (λ all. Retracts head all (before ++ atom ∷ after)) (after_push before atom atoms)
      (subst (Retracts head ((before ++ atom ∷ []) ++ atoms)) (after_push before atom after) (left-retracts (before ++ atom ∷ []) atoms after rest)) in
      elim here [
        | inl (drops, is) ↦ subst (λ rest. Retracts head (before ++ atom ∷ atoms) (before ++ rest)) (sym is)
            (retracts-then (before ++ atom ∷ atoms) (before ++ atom ∷ after) (before ++ after) further drops)
        | inr (stays, is) ↦ subst (λ rest. Retracts head (before ++ atom ∷ atoms) (before ++ rest)) (sym is) further
      ]

  -- nothing of what is left can be dropped, while others stand before it
  abbrev IsTight : List (Fact Term) → List (Fact Term) → Type 0
  IsTight before left =
      (front back : List (Fact Term)) (atom : Fact Term) → left ≡ front ++ atom ∷ back → Retracts head (before ++ left) (before ++ (front ++ back)) → ⊥

  -- nor of what is left after an atom
  abbrev IsTightAfter : List (Fact Term) → Fact Term → List (Fact Term) → Type 0
  IsTightAfter before atom after =
      (front back : List (Fact Term)) (other : Fact Term) → after ≡ front ++ other ∷ back
      → Retracts head (before ++ atom ∷ after) (before ++ atom ∷ (front ++ back)) → ⊥

  nil-IsTight : (before left : List (Fact Term)) → left ≡ [] → IsTight before left
  nil-IsTight before left is [] back atom whole retracts = let wrong : atom ∷ back ≡ [] = sym whole ∙ is in cc
  nil-IsTight before left is (first ∷ front) back atom whole retracts = let wrong : first ∷ (front ++ atom ∷ back) ≡ [] = sym whole ∙ is in cc

  left-IsTight : (before atoms left : List (Fact Term)) → AreLeft head before atoms left → IsTight before left
  left-IsTight before [] left is = nil-IsTight before left is
  left-IsTight before (atom ∷ atoms) left (after, rest, here) =
      by (tight_after (left-IsTight (before ++ atom ∷ []) atoms after rest)) here
    where
      tight_after : IsTight (before ++ atom ∷ []) after → IsTightAfter before atom after
      tight_after tight front back other whole retracts =
          tight front back other whole
          (subst (λ all. Retracts head all ((before ++ atom ∷ []) ++ (front ++ back))) (sym (after_push before atom after))
          (subst (Retracts head (before ++ atom ∷ after)) (sym (after_push before atom (front ++ back))) retracts))

      by : IsTightAfter before atom after → IsLeft head before atom after left → IsTight before left
      by tight (inl (drops, is)) front back other whole retracts =
          tight front back other (sym is ∙ whole)
          (retracts-then (before ++ atom ∷ after) (before ++ (front ++ back)) (before ++ atom ∷ (front ++ back))
          (retracts-then (before ++ atom ∷ after) (before ++ after) (before ++ (front ++ back)) drops
          (subst (λ all. Retracts head (before ++ all) (before ++ (front ++ back))) is retracts))
          (retracts-among head (before ++ (front ++ back)) (before ++ atom ∷ (front ++ back)) (λ it inside. split_more before (front ++ back) atom it inside)))
      by tight (inr (stays, is)) [] back other whole retracts =
          let same : after ≡ back = tails atom other after back (sym is ∙ whole) in
          stays (subst (λ all. Retracts head (before ++ all) (before ++ after)) is
          (subst (λ all. Retracts head (before ++ left) (before ++ all)) (sym same) retracts))
        where
          tails : (first other : Fact Term) (rest others : List (Fact Term)) → first ∷ rest ≡ other ∷ others → rest ≡ others
          tails first other rest others same = cc
      by tight (inr (stays, is)) (first ∷ front) back other whole retracts =
          let same = parts atom first after (front ++ other ∷ back) (sym is ∙ whole) in
          tight front back other same.1
          (subst (λ it. Retracts head (before ++ atom ∷ after) (before ++ it ∷ (front ++ back))) (sym same.0)
          (subst (λ all. Retracts head (before ++ all) (before ++ first ∷ (front ++ back))) is retracts))
        where
          parts : (first other : Fact Term) (rest others : List (Fact Term)) → first ∷ rest ≡ other ∷ others → (first ≡ other) × (rest ≡ others)
          parts first other rest others same = (cc, cc)

  pub left-IsCore : (atoms left : List (Fact Term)) → AreLeft head [] atoms left → IsCore (with_head head left)
  left-IsCore atoms left are = left-IsTight [] atoms left are

  -- one list is left
  pub left-one : (before atoms left other : List (Fact Term)) → AreLeft head before atoms left → AreLeft head before atoms other → left ≡ other
  left-one before [] left other is other_is = is ∙ sym other_is
  left-one before (atom ∷ atoms) left other (after, rest, here) (other_after, other_rest, other_here) =
      by (left-one (before ++ atom ∷ []) atoms after other_after rest other_rest) here other_here
    where
      by : after ≡ other_after → IsLeft head before atom after left → IsLeft head before atom other_after other → left ≡ other
      by same (inl (drops, is)) (inl (other_drops, other_is)) = is ∙ same ∙ sym other_is
      by same (inr (stays, is)) (inr (other_stays, other_is)) = is ∙ ap (λ all. atom ∷ all) same ∙ sym other_is
      by same (inl (drops, is)) (inr (other_stays, other_is)) =
          absurd (other_stays (subst (λ all. Retracts head (before ++ atom ∷ all) (before ++ all)) same drops))
      by same (inr (stays, is)) (inl (other_drops, other_is)) =
          absurd (stays (subst (λ all. Retracts head (before ++ atom ∷ all) (before ++ all)) (sym same) other_drops))

  -- it is chosen from the atoms
  pub left-chosen : (before atoms left : List (Fact Term)) → AreLeft head before atoms left
      → (set : List Bool) × (length set ≡ length atoms) × (left ≡ chosen set atoms)
  left-chosen before [] left is = ([], refl, is)
  left-chosen before (atom ∷ atoms) left (after, rest, here) =
      let further = left-chosen (before ++ atom ∷ []) atoms after rest in
      elim here [
        | inl (drops, is) ↦ (false ∷ further.0, ap suc further.1, is ∙ further.2)
        | inr (stays, is) ↦ (true ∷ further.0, ap suc further.1, is ∙ ap (λ all. atom ∷ all) further.2)
      ]

  pub left-among : (before atoms left : List (Fact Term)) → AreLeft head before atoms left → (atom : Fact Term) → Contains left atom → Contains atoms atom
  left-among before [] left is atom inside = subst (λ all. Contains all atom) is inside
  left-among before (first ∷ atoms) left (after, rest, here) atom inside = elim here [
    | inl (drops, is) ↦ Contains-rest first atoms atom (left-among (before ++ first ∷ []) atoms after rest atom (subst (λ all. Contains all atom) is inside))
    | inr (stays, is) ↦ elim (Contains-cases first after atom (subst (λ all. Contains all atom) is inside)) [
      | inl here ↦ subst (Contains (first ∷ atoms)) here (Contains-head first atoms)
      | inr later ↦ Contains-rest first atoms atom (left-among (before ++ first ∷ []) atoms after rest atom later)
    ]
  ]
