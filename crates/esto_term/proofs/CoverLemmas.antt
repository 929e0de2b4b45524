-- Lists of the minimal sets of a property: there is one, it covers each set that has the property, and it is empty where none has it.
use Rattle.std.proofs.Common.{◌≡◌, ◌↔◌, inl, inr, ℕ, Bool, List, [], ◌∷◌, length, Contains, refl, sym, subst, ◌∙◌}
use Rattle.esto_term.specs.Sets.{Within, Covers, IsMinimal, AreListedBy, HaveCount, all_sets}
use Rattle.esto_term.specs.SetLaws.{MinimalTell}
use Rattle.esto_term.proofs.SetLemmas.{all_sets_are_listed, decided_within, minimal_within, order_is_one}
use Rattle.esto_term.proofs.ChoiceLemmas.{Decided, kept}
use Rattle.esto_term.proofs.ListLemmas.{Contains-cases, Contains-head, Contains-nil, Contains-rest}

-- whether a list covers a set is decided
decided-covers : (sets : List (List Bool)) (set : List Bool) → Decided (Covers sets set)
decided-covers [] set = inr (λ found. Contains-nil found.0 found.1)
decided-covers (first ∷ rest) set = by (decided_within first set) (decided-covers rest set)
  where
    by : Decided (Within first set) → Decided (Covers rest set) → Decided (Covers (first ∷ rest) set)
    by (inl within) later = inl (first, Contains-head first rest, within)
    by (inr apart) (inl found) = inl (found.0, Contains-rest first rest found.0 found.1, found.2)
    by (inr apart) (inr none) = inr (λ found. elim (Contains-cases first rest found.0 found.1) [
      | inl is ↦ apart (subst (λ it. Within it set) (sym is) found.2)
      | inr later ↦ none (found.0, later, found.2)
    ])

module _ (P : List Bool → Type 0) where
  -- the property is decided at each set of a list
  abbrev AreDecided : List (List Bool) → Type 0
  AreDecided sets = (set : List Bool) → Contains sets set → Decided (P set)

  -- that it isn't is absurd
  never-undecided : (sets : List (List Bool)) → (AreDecided sets → ⊥) → ⊥
  never-undecided [] undecided = undecided (λ set inside. absurd (Contains-nil set inside))
  never-undecided (first ∷ rest) undecided =
      never-undecided rest (λ decided. undecided (more (inr (λ has. undecided (more (inl has) decided))) decided))
    where
      more : Decided (P first) → AreDecided rest → AreDecided (first ∷ rest)
      more here decided set inside =
          elim (Contains-cases first rest set inside) [ inl is ↦ subst (λ it. Decided (P it)) is here | inr later ↦ decided set later ]

  module _ (count : ℕ) (counted : HaveCount count P) (sets : List (List Bool)) (exact : (set : List Bool) → Contains sets set ↔ IsMinimal P set) where
    cover-decided : AreDecided (all_sets count) → (set : List Bool) → P set → Covers sets set
    cover-decided decided set has =
        let family = kept P (all_sets count) decided in
        let in_family = λ (other : List Bool) (is : P other). (family.1 other).1 (((all_sets_are_listed count).0 other).1 (counted other is), is) in
        let found = minimal_within family.0
        (λ one other here there. counted one ((family.1 one).0 here).1 ∙ sym (counted other ((family.1 other).0 there).1)) set (in_family set has) in
        (found.0, (exact found.0).1 (((family.1 found.0).0 found.1.0).1, λ other is within. found.1.1 other (in_family other is) within), found.2)

    pub minimal-cover : (set : List Bool) → P set → Covers sets set
    minimal-cover set has = elim (decided-covers sets set) [
      | inl covers ↦ covers
      | inr none ↦ absurd (never-undecided (all_sets count) (λ decided. none (cover-decided decided set has)))
    ]

  pub listed_by_is_one : (sets others : List (List Bool)) → AreListedBy P sets → AreListedBy P others → sets ≡ others
  listed_by_is_one sets others listed listed' =
      order_is_one sets others listed.ordered listed'.ordered
      (λ set. (λ inside. (listed'.exact set).1 ((listed.exact set).0 inside), λ inside. (listed.exact set).1 ((listed'.exact set).0 inside)))

  pub none_is_listed_by : (count : ℕ) → HaveCount count P → (sets : List (List Bool)) → AreListedBy P sets → (sets ≡ []) ↔ ((set : List Bool) → P set → ⊥)
  none_is_listed_by count counted sets listed = (
    (λ is set has. let found = minimal-cover count counted sets listed.exact set has in Contains-nil found.0 (subst (λ its. Contains its found.0) is found.1)),
    (λ none. empty sets (λ set inside. none set ((listed.exact set).0 inside).0)),
  )
    where
      empty : (its : List (List Bool)) → ((set : List Bool) → Contains its set → ⊥) → its ≡ []
      empty [] none = refl
      empty (first ∷ rest) none = absurd (none first (Contains-head first rest))

-- where the property rises, the minimal sets of a count that have it tell where it is
pub minimal_tell : (P : List Bool → Type 0) (count : ℕ) → MinimalTell count P
minimal_tell P count rises sets exact set over = (
  (λ (low, inside, within). let found = ((exact low).0 inside).0 in rises low set found.0 over within found.1),
  (λ has. minimal-cover (λ it. (length it ≡ count) × P it) count (λ it own. own.0) sets exact set (over, has)),
)
