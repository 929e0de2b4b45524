-- What is left of the atoms of a plan: the search for a map, and the loop.
use Rattle.std.proofs.Common.{◌≡◌, ◌↔◌, inl, inr, suc, ℕ, ◌+◌, ◌-◌, ◌<◌, ◌≤◌, Bool, false, Option, Some, None, List, [], ◌∷◌, ◌++◌}
use Rattle.std.proofs.Common.{take, drop, length, slice_get, Contains, IsTrue, IfSome, IfNone, refl, sym, ap, ◌∙◌, subst, arith}
use Rattle.std.specs.Bool.{⊤}
use Rattle.std.specs.Option.{is_some}
use Rattle.std.proofs.Math.Seq.{take-append_seam, drop-append-add, drop-length, take-length}
use Rattle.std.proofs.lemmas.Bool.{false≢true}
use Rattle.std.proofs.lemmas.List.{append-nil, take-append-drop, length-append, length-take-le}
use Rattle.esto_term.specs.declared.term.Term.{Term}
use Rattle.esto_term.specs.declared.term.Term.TheVariants.{Const}
use Rattle.esto_term.proofs.DistinctLemmas.{after_push, length_split, split_cases, split_more, split_thing}
use Rattle.esto_term.proofs.ListLemmas.{Contains-cases, Contains-head, Contains-rest, thing_at}
use Rattle.esto_term.proofs.PlaceLemmas.{drop-there, take-there}
use Rattle.esto_semantics.specs.Maps.{AreFlat, Keeps, Sends}
use Rattle.esto_semantics.specs.Matches.{IsMatch}
use Rattle.esto_semantics.specs.declared.fact.Fact.{Fact}
use Rattle.esto_query.specs.Matches.{IsLeastMatch, HasNoMatch}
use Rattle.esto_semantics.specs.Valuations.{Assignment, Extends, map_of}
use Rattle.esto_query.specs.declared.matches.Found.{Found}
use Rattle.esto_semantics.specs.Cores.{Retracts, AreLeft}
use Rattle.esto_core.specs.Left.{IsFixing, without, IsDroppedAt}

-- ---- what the search for a map says

module _ (head : List Term) (atoms others : List (Fact Term)) (start : Assignment) (fixing : IsFixing head start)
    (send : (m : Term → Term) (body facts : List (Fact Term)) → Sends m body facts ↔ ((places : List ℕ) × IsMatch m body facts places))
    (keeps : (valuation : Assignment) → Keeps Const (map_of valuation)) (extends : (valuation : Assignment) → Extends (map_of valuation) valuation) where
  pub found-retracts : (outcome : Option Found) → IfSome outcome (λ found. IsLeastMatch atoms others start (λ _. ⊤) found.valuation found.places)
      → IfNone outcome (HasNoMatch atoms others start (λ _. ⊤)) → (answer : Bool) → answer ≡ is_some outcome → IsTrue answer ↔ Retracts head atoms others
  found-retracts (Some found) least none answer is =
      let m = map_of found.valuation in
      let both = (least.is_found.exact m (keeps found.valuation)).0 (extends found.valuation) in (
        λ holds. (m, keeps found.valuation, (send m atoms others).1 (found.places, both.1), (fixing m (keeps found.valuation)).0 both.0),
        λ retracts. is,
      )
  found-retracts None least none answer is = (
    λ holds. absurd (false≢true (sym is ∙ holds)),
    λ retracts.
        let there = (send retracts.0 atoms others).0 retracts.2 in
        absurd (none retracts.0 there.0 retracts.1 ((fixing retracts.0 retracts.1).1 retracts.3) there.1 tt),
  )

-- ---- an atom of a list, and the others

module _ (atoms : List (Fact Term)) (place : ℕ) (atom : Fact Term) (at : slice_get atoms place ≡ Some atom) (within : place < length atoms) where
  whole : atoms ≡ take place atoms ++ atom ∷ drop (place + 1) atoms
  whole =
      sym (take-append-drop place atoms)
      ∙ ap (λ rest. take place atoms ++ rest)
      (drop-there atoms place atom at)

  -- the list has what the atom and the others have
  pub first-from : (fact : Fact Term) → Contains atoms fact → Contains (atom ∷ without place atoms) fact
  first-from fact inside =
      elim (split_cases (take place atoms) (drop (place + 1) atoms) atom fact (subst (λ all. Contains all fact) whole inside)) [
        | inl is ↦ subst (Contains (atom ∷ without place atoms)) is (Contains-head atom (without place atoms))
        | inr other ↦ Contains-rest atom (without place atoms) fact other
      ]

  pub first-among : (fact : Fact Term) → Contains (atom ∷ without place atoms) fact → Contains atoms fact
  first-among fact inside = subst (λ all. Contains all fact) (sym whole) (elim (Contains-cases atom (without place atoms) fact inside) [
    | inl is ↦ subst (Contains (take place atoms ++ atom ∷ drop (place + 1) atoms)) is (split_thing (take place atoms) (drop (place + 1) atoms) atom)
    | inr other ↦ split_more (take place atoms) (drop (place + 1) atoms) atom fact other
  ])

  pub first-flat : (others : List (Fact Term)) → others ≡ without place atoms → AreFlat atoms → AreFlat (atom ∷ others)
  first-flat others is flat term (fact, inside, in_fact) =
      flat term (fact, first-among fact (subst (λ all. Contains (atom ∷ all) fact) is inside), in_fact)

  module _ (head : List Term) (others : List (Fact Term)) (is : others ≡ without place atoms) where
    -- so both retract into the others, or neither does
    pub first-retracts : Retracts head (atom ∷ others) others ↔ Retracts head atoms (without place atoms)
    first-retracts = (
      λ retracts.
          let own = subst (λ all. Retracts head (atom ∷ all) all) is retracts in
          (own.0, own.1, (λ fact inside. own.2 fact (first-from fact inside)), own.3),
      λ retracts.
          subst (λ all. Retracts head (atom ∷ all) all) (sym is)
          (retracts.0, retracts.1, (λ fact inside. retracts.2 fact (first-among fact inside)), retracts.3),
    )

    pub dropped-there : Retracts head (atom ∷ others) others → IsDroppedAt head place atoms others
    dropped-there retracts = inl (first-retracts.0 retracts, is)

    pub dropped-not : (answer : Bool) → IsTrue answer ↔ Retracts head (atom ∷ others) others → answer ≡ false → IsDroppedAt head place atoms atoms
    dropped-not answer told fails = inr ((λ retracts. absurd (false≢true (sym fails ∙ told.1 (first-retracts.1 retracts)))), refl)

-- what is dropped from flat atoms leaves flat atoms
pub dropped-flat : (head : List Term) (place : ℕ) (old new : List (Fact Term))
    → place < length old → IsDroppedAt head place old new → AreFlat old → AreFlat new
dropped-flat head place old new within dropped flat = by dropped
  where
    by : IsDroppedAt head place old new → AreFlat new
    by (inl (retracts, is)) = λ term mentioned.
        let found = thing_at old place within in
        let kept = subst (λ all. Contains all mentioned.0) is mentioned.1 in
        flat term (
          mentioned.0,
          first-among old place found.0 found.1 within mentioned.0 (Contains-rest found.0 (without place old) mentioned.0 kept),
          mentioned.2,
        )
    by (inr (stays, is)) = subst AreFlat (sym is) flat

-- ---- the loop

-- the atoms from the place on have been gone through: these are the ones before it, and what is left of the others
abbrev pub IsGone : List Term → List (Fact Term) → ℕ → List (Fact Term) → Type 0
IsGone head atoms place left =
    (after : List (Fact Term)) × AreLeft head (take place atoms) (drop place atoms) after × (left ≡ take place atoms ++ after)

module _ (head : List Term) where
  without_at : (before after : List (Fact Term)) (atom : Fact Term) (place : ℕ) → length before ≡ place
      → without place (before ++ atom ∷ after) ≡ before ++ after
  without_at before after atom place count =
      ap (λ it. take it (before ++ atom ∷ after) ++ drop (it + 1) (before ++ atom ∷ after)) (sym count)
      ∙ ap (λ front. front ++ drop (length before + 1) (before ++ atom ∷ after)) (take-append_seam before (atom ∷ after))
      ∙ ap (λ back. before ++ back) (drop-append-add before (atom ∷ after) 1)

  step : (before after rest : List (Fact Term)) (atom : Fact Term) (place : ℕ) (old new : List (Fact Term)) → length before ≡ place
      → old ≡ before ++ atom ∷ after → AreLeft head (before ++ atom ∷ []) rest after → IsDroppedAt head place old new
      → (left : List (Fact Term)) × AreLeft head before (atom ∷ rest) left × (new ≡ before ++ left)
  step before after rest atom place old new count is_whole are dropped = by dropped
    where
      fewer : without place old ≡ before ++ after
      fewer = ap (without place) is_whole ∙ without_at before after atom place count

      same : Retracts head old (without place old) ≡ Retracts head (before ++ atom ∷ after) (before ++ after)
      same = λ i. Retracts head (is_whole i) (fewer i)

      by : IsDroppedAt head place old new → (left : List (Fact Term)) × AreLeft head before (atom ∷ rest) left × (new ≡ before ++ left)
      by (inl (drops, is)) = (after, (after, are, inl (subst (λ it. it) same drops, refl)), is ∙ fewer)
      by (inr (stays, is)) =
          (atom ∷ after, (after, are, inr ((λ retracts. stays (subst (λ it. it) (sym same) retracts)), refl)), is ∙ is_whole)

  module _ (atoms : List (Fact Term)) where
    pub gone-start : (left : List (Fact Term)) → left ≡ atoms → IsGone head atoms (length atoms) left
    gone-start left is = (
      [],
      subst (λ rest. AreLeft head (take (length atoms) atoms) rest []) (sym (drop-length atoms)) refl,
      is ∙ sym (take-length atoms) ∙ sym (append-nil (take (length atoms) atoms)),
    )

    pub gone-end : (place : ℕ) (left : List (Fact Term)) → place ≤ 0 → IsGone head atoms place left → AreLeft head [] atoms left
    gone-end place left below gone =
        let none : place ≡ 0 = omega (arith, below) in
        let (after, are, is) = subst (λ it. IsGone head atoms it left) none gone in
        subst (AreLeft head [] atoms) (sym is) are

    module _ (place : ℕ) (within : place < length atoms) (old : List (Fact Term)) (gone : IsGone head atoms (place + 1) old) where
      parts : (atom : Fact Term) × (take (place + 1) atoms ≡ take place atoms ++ atom ∷ []) × (drop place atoms ≡ atom ∷ drop (place + 1) atoms)
      parts =
          let at = thing_at atoms place within in (at.0, take-there atoms place at.0 at.1, drop-there atoms place at.0 at.1)

      length_before : length (take place atoms) ≡ place
      length_before = length-take-le place atoms (omega (arith, within))

      old_is : old ≡ take place atoms ++ parts.0 ∷ gone.0
      old_is = gone.2 ∙ ap (λ it. it ++ gone.0) parts.1 ∙ after_push (take place atoms) parts.0 gone.0

      pub gone-there : place < length old
      gone-there =
          let count : length old ≡ suc (length (take place atoms ++ gone.0)) = ap length old_is ∙ length_split (take place atoms) gone.0 parts.0 in
          let more = length-append (take place atoms) gone.0 in
          omega (arith, count, more, length_before)

      pub gone-next : (new : List (Fact Term)) → IsDroppedAt head place old new → IsGone head atoms place new
      gone-next new dropped =
          let found = step (take place atoms) gone.0 (drop (place + 1) atoms) parts.0 place old new length_before old_is
          (subst (λ front. AreLeft head front (drop (place + 1) atoms) gone.0) parts.1 gone.1) dropped in
          (found.0, subst (λ rest. AreLeft head (take place atoms) rest found.0) (sym parts.2) found.1, found.2)

module _ (head : List Term) (atoms : List (Fact Term)) (place : ℕ) (some : 0 < place) (within : place ≤ length atoms) (old : List (Fact Term))
    (gone : IsGone head atoms place old) where
  before_is : IsGone head atoms ((place - 1) + 1) old
  before_is = let same : place ≡ (place - 1) + 1 = omega (arith, some) in subst (λ it. IsGone head atoms it old) same gone

  pub gone-there_before : place - 1 < length old
  gone-there_before = gone-there head atoms (place - 1) (omega (arith, some, within)) old before_is

  pub gone-step : (new : List (Fact Term)) → IsDroppedAt head (place - 1) old new → IsGone head atoms (place - 1) new
  gone-step = gone-next head atoms (place - 1) (omega (arith, some, within)) old before_is
