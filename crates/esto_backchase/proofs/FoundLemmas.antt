-- One query alone is the case of a list of one.
use Rattle.std.proofs.Common.{◌≡◌, ◌↔◌, ℕ, inl, inr, List, [], ◌∷◌, length, Contains, subst, sym}
use Rattle.esto_term.proofs.ListLemmas.{Contains-cases, Contains-head, Contains-nil}
use Rattle.esto_query.specs.declared.query.Query.{Query}

-- what holds of one of the queries holds of the query
pub of_one : (Matches : Query → Type 0) (query : Query) (queries : List Query) → queries ≡ query ∷ []
    → ((it : Query) × Contains queries it × Matches it) ↔ Matches query
of_one Matches query queries same = (
  λ (it, inside, matches). elim (Contains-cases query [] it (subst (λ its. Contains its it) same inside)) [
    | inl is ↦ subst Matches (sym is) matches
    | inr none ↦ absurd (Contains-nil it none)
  ],
  λ matches. (query, subst (λ its. Contains its query) (sym same) (Contains-head query []), matches),
)

pub lengths_of_one : (count : ℕ) (query : Query) (queries : List Query) → queries ≡ query ∷ [] → count ≡ length query.head
    → (it : Query) → Contains queries it → count ≡ length it.head
lengths_of_one count query queries same lengths it inside = elim (Contains-cases query [] it (subst (λ its. Contains its it) same inside)) [
  | inl is ↦ subst (λ (other : Query). count ≡ length other.head) is lengths
  | inr none ↦ absurd (Contains-nil it none)
]
