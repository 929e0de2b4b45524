-- There is one query under new names.
use Rattle.std.proofs.Common.{◌≡◌, ◌⊎◌, inl, inr, ℕ, ◌<◌, ◌≤◌, List, [], ◌∷◌, ◌++◌}
use Rattle.std.proofs.Common.{map, length, get_or, slice_get, Contains, refl, sym, ap, ◌∙◌, subst, arith}
use Rattle.std.specs.List.{AllPairs}
use Rattle.std.proofs.lemmas.List.{length_push, get_or_push, get_or_append_left}
use Rattle.esto_term.specs.declared.term.Term.{Term}
use Rattle.esto_semantics.specs.Facts.{image}
use Rattle.esto_semantics.specs.Queries.{ConjunctiveQuery}
use Rattle.esto_query.specs.declared.query.Name.{Name}
use Rattle.esto_views.specs.Reading.{terms_read, OccursBefore}
use Rattle.esto_views.specs.Renamings.{name_of}
use Rattle.esto_views.specs.Renamed.{IsRenamed}
use Rattle.esto_views.proofs.RenamedLemmas.{became, read_row, read_head}
use Rattle.esto_term.proofs.ChoiceLemmas.{pairs_head, pairs_tail}
use Rattle.esto_term.proofs.ListLemmas.{Contains-cases, Contains-head, Contains-nil, Contains-rest, map_agree}

module _ {X : Type 0} (R : X → X → Type 0) (apart : (x y : X) → R x y → R y x → ⊥) where
  -- a thing of the one list is in the rest of the other, where they have the same things and begin with one thing
  rest_has : (x y : X) (xs ys : List X) → x ≡ y → AllPairs R (x ∷ xs) → ((z : X) → Contains (x ∷ xs) z → Contains (y ∷ ys) z) → (z : X) → Contains xs z
      → Contains ys z
  rest_has x y xs ys same pairs has z inside = elim (Contains-cases y ys z (has z (Contains-rest x xs z inside))) [
    | inl first ↦ let before = subst (R x) (sym (same ∙ first)) (pairs_head R x xs pairs z inside) in absurd (apart x x before before)
    | inr later ↦ later
  ]

  firsts : (x y : X) (xs ys : List X) → AllPairs R (x ∷ xs) → AllPairs R (y ∷ ys) → Contains (y ∷ ys) x → Contains (x ∷ xs) y → x ≡ y
  firsts x y xs ys pairs other_pairs there here = elim (Contains-cases y ys x there) [
    | inl same ↦ sym same
    | inr later ↦ elim (Contains-cases x xs y here) [
      | inl same ↦ same
      | inr other_later ↦ absurd (apart x y (pairs_head R x xs pairs y other_later) (pairs_head R y ys other_pairs x later))
    ]
  ]

  pub one_order : (xs ys : List X) → AllPairs R xs → AllPairs R ys → ((z : X) → Contains xs z → Contains ys z) → ((z : X) → Contains ys z → Contains xs z)
      → xs ≡ ys
  one_order [] [] pairs other_pairs there here = refl
  one_order [] (y ∷ ys) pairs other_pairs there here = absurd (Contains-nil y (here y (Contains-head y ys)))
  one_order (x ∷ xs) [] pairs other_pairs there here = absurd (Contains-nil x (there x (Contains-head x xs)))
  one_order (x ∷ xs) (y ∷ ys) pairs other_pairs there here =
      let first = firsts x y xs ys pairs other_pairs (there x (Contains-head x xs)) (here y (Contains-head y ys)) in
      let rest = one_order xs ys (pairs_tail R x xs pairs) (pairs_tail R y ys other_pairs) (rest_has x y xs ys first pairs there)
      (rest_has y x ys xs (sym first) other_pairs here) in
      λ i. first i ∷ rest i

-- of two fronts of one list, the longer one has the last term of the other
front_has : (terms front back other_front other_back : List Term) (term : Term) → terms ≡ (front ++ term ∷ []) ++ back → terms ≡ other_front ++ other_back
    → length front < length other_front
    → Contains other_front term
front_has terms front back other_front other_back term is other_is less =
    let within : length front < length (front ++ term ∷ []) = omega (arith, length_push front term) in (
      length front,
      less,
      sym (get_or_append_left other_front other_back term (length front) less)
          ∙ ap (λ it. get_or it (length front) term) (sym other_is ∙ is)
          ∙ get_or_append_left (front ++ term ∷ []) back term (length front) within
          ∙ get_or_push front term term (length front) refl,
    )

occurs_apart : (terms : List Term) (term other : Term) → OccursBefore terms term other → OccursBefore terms other term → ⊥
occurs_apart terms term other (front, (back, is, without)) (other_front, (other_back, other_is, other_without)) =
    by (cases_le (length front) (length other_front))
  where
    cases_le : (a b : ℕ) → (a ≤ b) ⊎ (b ≤ a)
    cases_le a b = grind arith

    by : (length front ≤ length other_front) ⊎ (length other_front ≤ length front) → ⊥
    by (inl less) =
        let longer : length front < length (other_front ++ other ∷ []) = omega (arith, length_push other_front other) in
        other_without (front_has terms front back (other_front ++ other ∷ []) other_back term is other_is longer)
    by (inr more) =
        let longer : length other_front < length (front ++ term ∷ []) = omega (arith, length_push front term) in
        without (front_has terms other_front other_back (front ++ term ∷ []) back other other_is is longer)

module _ (names : List Name) (old new other : ConjunctiveQuery) (new_names other_names : List Name) (renamed : IsRenamed names old new new_names)
    (again : IsRenamed names old other other_names) where
  abbrev read : List Term
  read = terms_read old.body old.head

  same_seen : renamed.seen ≡ again.seen
  same_seen =
      one_order (OccursBefore read) (occurs_apart read) renamed.seen again.seen renamed.are_seen.ordered again.are_seen.ordered
      (λ term inside. (again.are_seen.exact term).1 ((renamed.are_seen.exact term).0 inside))
      (λ term inside. (renamed.are_seen.exact term).1 ((again.are_seen.exact term).0 inside))

  same_renaming : (term : Term) → Contains read term → renamed.renaming term ≡ again.renaming term
  same_renaming term inside = elim (became read renamed.seen renamed.renaming term renamed.are_seen renamed.is_renaming inside) [
    | inl (constant, same) ↦ same ∙ constant.1 ∙ sym (again.is_renaming.keeps constant.0) ∙ ap again.renaming (sym constant.1)
    | inr (place, at, same) ↦ same ∙ sym (again.is_renaming.numbers place term (ap (λ it. slice_get it place) (sym same_seen) ∙ at))
  ]

  same_head : new.head ≡ other.head
  same_head =
      renamed.head
      ∙ map_agree renamed.renaming again.renaming old.head (λ term inside. same_renaming term (read_head old.body old.head term inside))
      ∙ sym again.head

  same_body : new.body ≡ other.body
  same_body =
      renamed.atoms
      ∙ map_agree (image renamed.renaming) (image again.renaming) old.body
      (λ row in_rows. ap (λ (it : List Term). record { relation = row.relation; terms = it })
      (map_agree renamed.renaming again.renaming row.terms (λ term inside. same_renaming term (read_row old.body old.head row term in_rows inside))))
      ∙ sym again.atoms

  pub one_renamed : (new ≡ other) × (new_names ≡ other_names)
  one_renamed = (
    (λ i. record { head = same_head i; body = same_body i }),
    renamed.names_are ∙ ap (map (name_of names)) same_seen ∙ sym again.names_are,
  )
