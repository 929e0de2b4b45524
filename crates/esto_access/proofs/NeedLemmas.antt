-- What an atom needs, by what products cover.
use Rattle.std.proofs.Common.{◌≡◌, ◌↔◌, ◌⊎◌, ℕ, ◌+◌, ◌≤◌, Bool, false, List, [], map, length, replicate, Some, slice_get, slice_index_or, Contains, refl, sym}
use Rattle.std.proofs.Common.{ap, subst, inl, inr, arith}
use Rattle.std.proofs.lemmas.Bool.{cases_lt}
use Rattle.std.proofs.lemmas.List.{length-map, get_or_past}
use Rattle.std.proofs.lemmas.Option.{get_or_from_slice_get}
use Rattle.esto_term.specs.declared.term.Term.{Term}
use Rattle.esto_semantics.specs.declared.fact.Fact.{Fact}
use Rattle.esto_semantics.specs.Access.{IsInput, IsBound, MeetsPattern, IsAccessible}
use Rattle.esto_semantics.specs.Maps.{IsConstant}
use Rattle.esto_term.specs.Sets.{Has, Within, Covers}
use Rattle.esto_term.proofs.SetLemmas.{none_has}
use Rattle.esto_views.specs.Fragments.{patterns_of}
use Rattle.esto_views.specs.Plans.{fact_of}
use Rattle.esto_views.specs.declared.fragments.FragmentDef.{FragmentDef}
use Rattle.esto_views.specs.declared.plan.PlanAtom.{PlanAtom}
use Rattle.esto_views.proofs.PatternLemmas.{patterns_at}
use Rattle.esto_bits.specs.Kept.{Kept, kept}
use Rattle.esto_access.specs.Supplies.{sets_at, IsSupplied}
use Rattle.esto_access.proofs.AtomLemmas.{no_patterns, one_fact}
use Rattle.esto_access.specs.Rounds.{IsNextIn}
use Rattle.esto_bits.proofs.JoinLemmas.{covers_none}
use Rattle.esto_term.proofs.ListLemmas.{Contains-nil, HoldsBelow, SomeBelow, some_none, some_step, some_all, some_contained, each_none, each_step, each_all}
use Rattle.esto_term.proofs.ListLemmas.{map_at, thing_at}

-- the set of no number is a subset of every set
pub none_within : (count : ℕ) (set : List Bool) → Within (replicate count false) set
none_within count set number has = absurd (none_has count number has)

pub sets_there : (supplies : List Kept) (number : ℕ) (products : Kept) → slice_get supplies number ≡ Some products → sets_at supplies number ≡ products.sets
sets_there supplies number products at = ap (λ (it : Kept). it.sets) (get_or_from_slice_get supplies number products (kept 0 []) at)

-- what is supplied has sets
pub supplied_from : (supplies : List Kept) (set : List Bool) (number : ℕ) → IsSupplied supplies set number
    → (products : Kept) × (slice_get supplies number ≡ Some products) × Covers products.sets set
supplied_from supplies set number supplied = elim (cases_lt number (length supplies)) [
  | inl below ↦ (let there = thing_at supplies number
      below in (there.0, there.1, subst (λ its. Covers its set) (sets_there supplies number there.0 there.1) supplied))
  | inr beyond ↦ absurd (covers_none set (subst (λ it. Covers it set) (ap (λ (it : Kept). it.sets) (get_or_past supplies number (kept 0 []) beyond)) supplied))
]

-- what the set of one number is a subset of
pub with_number : (count number : ℕ) (none row : List Bool) (found : List (List Bool)) → none ≡ replicate count false
    → ((other : ℕ) → Has row other ↔ ((other ≡ number) ⊎ Has none other)) → ((set : List Bool) → Covers found set ↔ Within row set)
    → (set : List Bool) → Covers found set ↔ Has set number
with_number count number none row found is has covers set = (
  λ h. (covers set).0 h number ((has number).1 (inl refl)),
  λ there. (covers set).1 (λ other h. elim ((has other).0 h)
      [ inl same ↦ subst (Has set) (sym same) there | inr never ↦ absurd (none_has count other (subst (λ it. Has it other) is never)) ]),
)

-- ---- the atoms in which a term occurs

module _ (atoms : List PlanAtom) (supplies : List Kept) (term : Term) where
  abbrev Gives : List Bool → ℕ → Fact Term → Type 0
  Gives set number atom = IsSupplied supplies set number × Contains atom.terms term

  -- each set covers what the first few atoms give
  abbrev pub AreGivenBelow : ℕ → List (List Bool) → Type 0
  AreGivenBelow count found = (set : List Bool) → Covers found set ↔ SomeBelow (Gives set) (map fact_of atoms) count

  pub given_start : (none : List (List Bool)) → none ≡ [] → AreGivenBelow 0 none
  given_start none is set = (λ h. absurd (covers_none set (subst (λ it. Covers it set) is h)), λ h. absurd (some_none (Gives set) (map fact_of atoms) h))

  module _ (count : ℕ) (atom : PlanAtom) (at : slice_get atoms count ≡ Some atom) (found : List (List Bool)) (so_far : AreGivenBelow count found) where
    pub given_grows : Contains atom.terms term → (products : Kept) → slice_get supplies count ≡ Some products
        → (after : List (List Bool)) → ((set : List Bool) → Covers after set ↔ (Covers found set ⊎ Covers products.sets set)) → AreGivenBelow (count + 1) after
    given_grows occurs products there after also set =
        let step = some_step (Gives set) (map fact_of atoms) count (fact_of atom) (map_at fact_of atoms count atom at) in
        let own = sets_there supplies count products there in (
          λ h. step.1 (elim ((also set).0 h) [ inl before ↦ inl ((so_far set).0 before) | inr now ↦ inr (subst (λ it. Covers it set) (sym own) now, occurs) ]),
          λ h. (also set).1 (elim (step.0 h) [ inl before ↦ inl ((so_far set).1 before) | inr now ↦ inr (subst (λ it. Covers it set) own now.0) ]),
        )

    pub given_stays : (Contains atom.terms term → ⊥) → AreGivenBelow (count + 1) found
    given_stays absent set =
        let step = some_step (Gives set) (map fact_of atoms) count (fact_of atom) (map_at fact_of atoms count atom at) in (
          λ h. step.1 (inl ((so_far set).0 h)),
          λ h. elim (step.0 h) [ inl before ↦ (so_far set).1 before | inr now ↦ absurd (absent now.1) ],
        )

  pub given_end : (count : ℕ) (found : List (List Bool)) → length atoms ≤ count → AreGivenBelow count found
      → (set : List Bool) → Covers found set
      ↔ ((number : ℕ) × IsSupplied supplies set number
      × ((atom : Fact Term) × (slice_get (map fact_of atoms) number ≡ Some atom) × Contains atom.terms term))
  given_end count found l so_far set =
      let all = some_all (Gives set) (map fact_of atoms) count (let same = length-map atoms fact_of in omega (arith, same, l)) in (
        λ h. let (number, (atom, at, (supplied, occurs))) = all.0 ((so_far set).0 h) in (number, supplied, (atom, at, occurs)),
        λ (number, supplied, (atom, at, occurs)). (so_far set).1 (all.1 (number, (atom, at, (supplied, occurs)))),
      )

  -- a constant is bound in every set
  pub binds_constant : (found : List (List Bool)) → ((set : List Bool) → Covers found set) → IsConstant term
      → (set : List Bool) → Covers found set ↔ IsBound (map fact_of atoms) (IsSupplied supplies set) term
  binds_constant found covers constant set = (λ _. inl constant, λ _. covers set)

  pub binds_other : (found : List (List Bool)) → (IsConstant term → ⊥)
      → ((set : List Bool) → Covers found set
      ↔ ((number : ℕ) × IsSupplied supplies set number
      × ((atom : Fact Term) × (slice_get (map fact_of atoms) number ≡ Some atom) × Contains atom.terms term)))
      → (set : List Bool) → Covers found set ↔ IsBound (map fact_of atoms) (IsSupplied supplies set) term
  binds_other found other covers set =
      (λ h. inr ((covers set).0 h), λ bound. elim bound [ inl constant ↦ absurd (other constant) | inr given ↦ (covers set).1 given ])

-- one family covers also what the sets of another cover, which are those of which something holds
pub covers_also : (found met after : List (List Bool)) (P : List Bool → Type 0) → ((set : List Bool) → Covers met set ↔ P set)
    → ((set : List Bool) → Covers after set ↔ (Covers found set ⊎ Covers met set)) → (set : List Bool) → Covers after set ↔ (Covers found set ⊎ P set)
covers_also found met after P holds also set = (
  λ h. elim ((also set).0 h) [ inl before ↦ inl before | inr now ↦ inr ((holds set).0 now) ],
  λ h. (also set).1 (elim h [ inl before ↦ inl before | inr now ↦ inr ((holds set).1 now) ]),
)

-- ---- the patterns

module _ (atoms : List (Fact Term)) (supplies : List Kept) (number : ℕ) (atom : Fact Term) where
  module _ (pattern : List Bool) where
    abbrev Needs : List Bool → ℕ → Term → Type 0
    Needs set column term = IsInput pattern column → IsBound atoms (IsSupplied supplies set) term

    -- each set covers where the atom is and the first few columns hold what they need
    abbrev pub AreMetBelow : ℕ → List (List Bool) → Type 0
    AreMetBelow count found = (set : List Bool) → Covers found set ↔ (Has set number × HoldsBelow (Needs set) atom.terms count)

    pub met_start : (found : List (List Bool)) → ((set : List Bool) → Covers found set ↔ Has set number) → AreMetBelow 0 found
    met_start found covers set = (
      λ h. ((covers set).0 h, each_none (Needs set) atom.terms),
      λ (there, _). (covers set).1 there,
    )

    module _ (count : ℕ) (term : Term) (at : slice_get atom.terms count ≡ Some term) (found : List (List Bool)) (so_far : AreMetBelow count found) where
      pub met_turns : (after : List (List Bool))
          → ((set : List Bool) → Covers after set ↔ (Covers found set × (IsInput pattern count → IsBound atoms (IsSupplied supplies set) term)))
          → AreMetBelow (count + 1) after
      met_turns after covers set =
          let step = each_step (Needs set) atom.terms count term at in (
            λ h. let now = (covers set).0 h in let before = (so_far set).0 now.0 in (before.0, step.1 (before.1, now.1)),
            λ (has, each). let now = step.0 each in (covers set).1 ((so_far set).1 (has, now.0), now.1),
          )

    pub met_end : (count : ℕ) (found : List (List Bool)) → length atom.terms ≤ count → AreMetBelow count found
        → (set : List Bool) → Covers found set ↔ (Has set number × MeetsPattern atoms (IsSupplied supplies set) atom pattern)
    met_end count found l so_far set =
        let all = each_all (Needs set) atom.terms count l in (
          λ h. let both = (so_far set).0 h in (both.0, λ column term input at. all.0 both.1 column term at input),
          λ (has, meets). (so_far set).1 (has, all.1 (λ column term at input. meets column term input at)),
        )

  -- each set covers where the atom is and meets one of the first few patterns
  abbrev Meets : List Bool → List Bool → Type 0
  Meets set pattern = Has set number × MeetsPattern atoms (IsSupplied supplies set) atom pattern

  abbrev pub AreMetByBelow : List (List Bool) → ℕ → List (List Bool) → Type 0
  AreMetByBelow patterns count found = (set : List Bool) → Covers found set ↔ SomeBelow (λ _ pattern. Meets set pattern) patterns count

  module _ (patterns : List (List Bool)) where
    pub met_by_start : (none : List (List Bool)) → none ≡ [] → AreMetByBelow patterns 0 none
    met_by_start none is set = (
      λ h. absurd (covers_none set (subst (λ it. Covers it set) is h)),
      λ h. absurd
          (some_none (λ _ pattern. Meets set pattern) patterns h),
    )

    pub met_by_grows : (count : ℕ) (pattern : List Bool) → slice_get patterns count ≡ Some pattern → (found after : List (List Bool))
        → ((set : List Bool) → Covers after set ↔ (Covers found set ⊎ Meets set pattern)) → AreMetByBelow patterns count found
        → AreMetByBelow patterns (count + 1) after
    met_by_grows count pattern at found after also so_far set =
        let step = some_step (λ _ it. Meets set it) patterns count pattern at in (
          λ h. step.1 (elim ((also set).0 h) [ inl before ↦ inl ((so_far set).0 before) | inr now ↦ inr now ]),
          λ h. (also set).1 (elim (step.0 h) [ inl before ↦ inl ((so_far set).1 before) | inr now ↦ inr now ]),
        )

    pub met_by_end : (items : List (List Bool)) → items ≡ patterns → (count : ℕ) (found : List (List Bool)) → length items ≤ count
        → AreMetByBelow items count found
        → (set : List Bool) → Covers found set
        ↔ (Has set number × ((pattern : List Bool) × Contains patterns pattern × MeetsPattern atoms (IsSupplied supplies set) atom pattern))
    met_by_end items same count found l so_far set =
        let all = some_contained (λ pattern. Meets set pattern) items count l in (
          λ h. let (pattern, inside, (has, meets)) = all.0 ((so_far set).0 h) in (has, (pattern, subst (λ its. Contains its pattern) same inside, meets)),
          λ (has, (pattern, inside, meets)). (so_far set).1 (all.1 (pattern, subst (λ its. Contains its pattern) (sym same) inside, (has, meets))),
        )

-- ---- one round for one atom

module _ (atoms : List PlanAtom) (fragments : List FragmentDef) (supplies : List Kept) (number : ℕ) (atom : PlanAtom) (at : slice_get atoms number ≡ Some atom)
  where
    pub next_none : (found : List (List Bool)) → found ≡ [] → length fragments ≤ atom.fragment
        → (set : List Bool) → Covers found set ↔ IsNextIn (patterns_of fragments) (map fact_of atoms) set (IsSupplied supplies set) number
    next_none found is l set = (
      λ h. absurd (covers_none set (subst (λ it. Covers it set) is h)),
      λ (has, (fact, at_fact, (pattern, own, meets))). absurd
          (Contains-nil pattern (subst (λ its. Contains its pattern) (no_patterns fragments atom.fragment l)
          (subst (λ (it : Fact Term). Contains (slice_index_or (patterns_of fragments) it.relation []) pattern)
          (sym (one_fact atoms number atom at fact at_fact)) own))),
    )

    pub next_some : (fragment : FragmentDef) → slice_get fragments atom.fragment ≡ Some fragment → (found : List (List Bool))
        → ((set : List Bool) → Covers found set
        ↔ (Has set number × ((pattern : List Bool) × Contains fragment.access pattern × MeetsPattern (map fact_of atoms) (IsSupplied supplies set)
        (fact_of atom) pattern)))
        → (set : List Bool) → Covers found set ↔ IsNextIn (patterns_of fragments) (map fact_of atoms) set (IsSupplied supplies set) number
    next_some fragment there found covers set =
        let own = patterns_at fragments atom.fragment fragment there in (
          λ h. let (has, (pattern, inside, meets)) = (covers set).0
              h in (has, (fact_of atom, map_at fact_of atoms number atom at, (pattern, subst (λ its. Contains its pattern) (sym own) inside, meets))),
          λ (has, (fact, at_fact, accessible)).
              let here = subst (IsAccessible (patterns_of fragments) (map fact_of atoms) (IsSupplied supplies set))
              (sym (one_fact atoms number atom at fact at_fact)) accessible in
              (covers set).1 (has, (here.0, subst (λ its. Contains its here.0) own here.1, here.2)),
        )
