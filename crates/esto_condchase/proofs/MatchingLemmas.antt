-- What is found for the first few queries of a union, and for all of them.
use Rattle.std.proofs.Common.{◌≡◌, ◌↔◌, ◌⊎◌, ◌≤◌, ℕ, ◌+◌, inl, inr, Bool, List, [], Some, length, slice_get, Contains, subst}
use Rattle.esto_term.specs.declared.term.Term.{Term}
use Rattle.esto_term.proofs.ListLemmas.{Contains-nil, SomeBelow, some_contained, some_none, some_step}
use Rattle.esto_term.specs.Sets.{Covers}
use Rattle.esto_bits.specs.Kept.{CoversEither}
use Rattle.esto_query.specs.declared.query.Query.{Query}
use Rattle.esto_semantics.specs.declared.fact.Fact.{Fact}
use Rattle.esto_chase_laws.specs.WorldLaws.{HasMatch}
use Rattle.esto_chase_laws.specs.Worlds.{InWorld}
use Rattle.esto_chase_laws.specs.declared.entry.Entry.{Entry}

module _ (Matches : Query → List Bool → Type 0) (queries : List Query) where
  -- the sets cover just what one of the first few queries has a match in
  abbrev pub AreFoundBelow : ℕ → List (List Bool) → Type 0
  AreFoundBelow count found = (set : List Bool) → Covers found set ↔ SomeBelow (λ _ query. Matches query set) queries count

  -- no set covers anything, and there is no query yet
  pub found_none : (found : List (List Bool)) → found ≡ [] → AreFoundBelow 0 found
  found_none found none set = (
    λ covers. absurd (Contains-nil covers.0 (subst (λ sets. Contains sets covers.0) none covers.1)),
    λ some. absurd (some_none (λ _ query. Matches query set) queries some),
  )

  pub found_more : (count : ℕ) (query : Query) → slice_get queries count ≡ Some query → (found after : List (List Bool))
      → ((set : List Bool) → Covers after set ↔ (Covers found set ⊎ Matches query set)) → AreFoundBelow count found → AreFoundBelow (count + 1) after
  found_more count query at found after added before set =
      let step = some_step (λ _ it. Matches it set) queries count query at in (
        λ covers. step.1 (elim ((added set).0 covers) [ inl earlier ↦ inl ((before set).0 earlier) | inr now ↦ inr now ]),
        λ some. (added set).1 (elim (step.0 some) [ inl earlier ↦ inl ((before set).1 earlier) | inr now ↦ inr now ]),
      )

  pub found_all : (count : ℕ) → length queries ≤ count → (found : List (List Bool)) → AreFoundBelow count found
      → (set : List Bool) → Covers found set ↔ ((query : Query) × Contains queries query × Matches query set)
  found_all count all found before set =
      let whole = some_contained (λ (query : Query). Matches query set) queries count all in
      (λ covers. whole.0 ((before set).0 covers), λ some. (before set).1 (whole.1 some))

-- sets are added that cover what the query has a match in
pub matching_added : (Matches : List Bool → Type 0) (found own after : List (List Bool)) → ((set : List Bool) → Covers own set ↔ Matches set)
    → CoversEither found own after → (set : List Bool) → Covers after set ↔ (Covers found set ⊎ Matches set)
matching_added Matches found own after tell either set = (
  λ covers. elim ((either set).0 covers) [ inl earlier ↦ inl earlier | inr now ↦ inr ((tell set).0 now) ],
  λ some. (either set).1 (elim some [ inl earlier ↦ inl earlier | inr now ↦ inr ((tell set).1 now) ]),
)

-- what is handed over are the entries, the body and the targets
pub handed_over : (sets : List (List Bool)) (set : List Bool) (entries its : List Entry) (head : List Term) (body atoms : List (Fact Term))
    (targets terms : List Term) → its ≡ entries → atoms ≡ body → terms ≡ targets
    → Covers sets set ↔ HasMatch (InWorld its set) head atoms terms → Covers sets set ↔ HasMatch (InWorld entries set) head body targets
handed_over sets set entries its head body atoms targets terms same same_body same_targets tell =
    subst (λ it. Covers sets set ↔ HasMatch (InWorld it set) head body targets) same
    (subst (λ it. Covers sets set ↔ HasMatch (InWorld its set) head it targets) same_body
    (subst (λ it. Covers sets set ↔ HasMatch (InWorld its set) head atoms it) same_targets tell))
