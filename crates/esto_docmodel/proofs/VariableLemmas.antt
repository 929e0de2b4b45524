-- The variables of a pattern, and its query.
use Rattle.std.proofs.Common.{◌≡◌, ◌⊎◌, ◌↔◌, inl, inr, ℕ, suc, ◌+◌, ◌++◌, ◌<◌, ◌≤◌, max, List, [], ◌∷◌, length, map, drop, take, get_or, Contains, refl, sym}
use Rattle.std.proofs.Common.{ap, ◌∙◌, subst, arith}
use Rattle.std.proofs.lemmas.List.{drop_all, get_or_default}
use Rattle.std.proofs.lemmas.List.Elements.{Contains-append_left, Contains-push, Contains-push_cases}
use Rattle.std.specs.FinMap.{insert}
use Rattle.std.specs.Prelude.{Result, Ok, Err, OnOk}
use Rattle.esto_term.proofs.ListLemmas.{Contains-nil, Contains-cases, Contains-map_from, each_more}
use Rattle.esto_term.proofs.PlaceLemmas.{drop-item}
use Rattle.esto_term.specs.declared.term.Term.{Term}
use Rattle.esto_term.specs.declared.term.Term.TheVariants.{Const, Plain}
use Rattle.esto_semantics.specs.Facts as facts
use Rattle.esto_semantics.specs.Maps.{IsFlat, AreFlat, IsFixedBy}
use Rattle.esto_semantics.specs.declared.fact.Fact.{Fact}
use Rattle.esto_query.specs.Rows.{Adds}
use Rattle.esto_query.specs.Soundness.{IsSound, AreNamed}
use Rattle.esto_semantics.specs.Valuations.{Assignment}
use Rattle.esto_query.specs.declared.query.Name.{Name}
use Rattle.esto_docmodel.specs.Encodings.{used, atoms_of}
use Rattle.esto_docmodel.specs.Matching.{AreVariables, head_of, given}
use Rattle.esto_docmodel.specs.Meanings.{AreFresh}
use Rattle.esto_docmodel.specs.Patterns.{Entries, done, holds, group, Mentions, IsBelow}
use Rattle.esto_docmodel.specs.Shapes.{entry_shape, entries_of}
use Rattle.esto_docmodel.specs.Valuations.{HaveFlatTerms}
use Rattle.esto_docmodel.specs.declared.pattern.Entry.{Entry}
use Rattle.esto_docmodel.specs.declared.pattern.Entry.TheVariants as entry
use Rattle.esto_docmodel.specs.declared.pattern.Step.{Step}
use Rattle.esto_docmodel.proofs.ExtendingLemmas.{below_const, below_plain, below_more}
use Rattle.esto_docmodel.proofs.LayoutLemmas.{mention_at}
use Rattle.esto_docmodel.proofs.MentionLemmas.{atoms_have, said_in_atoms}
use Rattle.esto_docmodel.proofs.ShapeLemmas.{entry-Value, entry-Group}

-- ---- variables, an entry at a time

-- what is put, with what is left, is the whole
abbrev pub HasPut : List ℕ → List ℕ → Entries → Entries → Type 0
HasPut first now left all = (v : ℕ) → (Contains now v ⊎ Mentions left (Plain v)) ↔ (Contains first v ⊎ Mentions all (Plain v))

pub variables_turn : (first now next : List ℕ) (entries : List Entry) (i : ℕ) (it : Entry) → i < length entries → it ≡ get_or entries i it
    → Adds now next (λ v. Mentions (entry_shape it done) (Plain v)) → HasPut first now (entries_of (drop i entries)) (entries_of entries)
    → HasPut first next (entries_of (drop (i + 1) entries)) (entries_of entries)
variables_turn first now next entries i it within is added known v =
    let parts = mention_at (Plain v) entries i it within is in (
      λ either. elim either [
        | inl there ↦ elim ((added v).0 there) [ inl old ↦ (known v).0 (inl old) | inr here ↦ (known v).0 (inr (parts.1 (inl here))) ]
        | inr later ↦ (known v).0 (inr (parts.1 (inr later)))
      ],
      λ whole. elim ((known v).1 whole) [
        | inl old ↦ inl ((added v).1 (inl old))
        | inr said ↦ elim (parts.0 said) [ inl here ↦ inl ((added v).1 (inr here)) | inr later ↦ inr later ]
      ],
    )

pub variables_end : (first now : List ℕ) (entries : List Entry) (i : ℕ) → length entries ≤ i
    → HasPut first now (entries_of (drop i entries)) (entries_of entries)
    → Adds first now (λ v. Mentions (entries_of entries) (Plain v))
variables_end first now entries i past known v =
    let nothing : entries_of (drop i entries) ≡ done = ap entries_of (drop_all i entries past) in (
      λ there. (known v).0 (inl there),
      λ whole. elim ((known v).1 whole) [
        | inl there ↦ there
        | inr said ↦ absurd (subst (λ (w : Entries). Mentions w (Plain v)) nothing said)
      ],
    )

-- those of one entry
module _ (old new : List ℕ) (it : Entry) where
  pub variables_value : (path : List Step) (term : Term) → it ≡ entry.Value path term → Adds old new (λ v. term ≡ Plain v)
      → Adds old new (λ v. Mentions (entry_shape it done) (Plain v))
  variables_value path term is added v =
      let shape : entry_shape it done ≡ holds path term done = ap (λ (w : Entry). entry_shape w done) is ∙ entry-Value path term done in (
        λ there. elim ((added v).0 there) [ inl before ↦ inl before | inr same ↦ inr (subst (λ (w : Entries). Mentions w (Plain v)) (sym shape) (inl same)) ],
        λ whole. elim whole [
          | inl before ↦ (added v).1 (inl before)
          | inr said ↦ elim (subst (λ (w : Entries). Mentions w (Plain v)) shape said) [ inl same ↦ (added v).1 (inr same) | inr never ↦ absurd never ]
        ],
      )

  pub variables_group : (path : List Step) (inner : List Entry) → it ≡ entry.Group path inner → Adds old new (λ v. Mentions (entries_of inner) (Plain v))
      → Adds old new (λ v. Mentions (entry_shape it done) (Plain v))
  variables_group path inner is added v =
      let shape : entry_shape it done ≡ group path (entries_of inner) done = ap (λ (w : Entry). entry_shape w done) is ∙ entry-Group path inner done in (
        λ there. elim ((added v).0 there) [
          | inl before ↦ inl before
          | inr inside ↦ inr (subst (λ (w : Entries). Mentions w (Plain v)) (sym shape) (inl inside))
        ],
        λ whole. elim whole [
          | inl before ↦ (added v).1 (inl before)
          | inr said ↦ elim (subst (λ (w : Entries). Mentions w (Plain v)) shape said) [ inl inside ↦ (added v).1 (inr inside) | inr never ↦ absurd never ]
        ],
      )

-- ---- numbers

pub greater_turn : (numbers : List ℕ) (i bound next new : ℕ) → i < length numbers → next ≡ suc (get_or numbers i 0) → new ≡ max next bound
    → ((n : ℕ) → Contains (take i numbers) n → n < bound) → (n : ℕ) → Contains (take (i + 1) numbers) n → n < new
greater_turn numbers i bound next new within above more before =
    each_more (λ n. n < new) numbers i (get_or numbers i 0) within (get_or_default numbers i 0 (get_or numbers i 0) within) (omega (arith, above, more))
    (λ n inside. let low = before n inside in omega (arith, low, more))

-- ---- the query

pub fresh_numbers : (entries : Entries) (variables : List ℕ) (root next : ℕ) → AreVariables entries variables
    → ((n : ℕ) → Contains variables n → n < root) → next ≡ suc root → AreFresh entries root next
fresh_numbers entries variables root next said above is_next = record {
  root_below = omega (arith, is_next);
  root_apart = λ h. let low = above root ((said root).1 h) in omega (arith, low);
  below = λ term h v is. let low = above v ((said v).1 (subst (Mentions entries) is h)) in omega (arith, low, is_next);
}

module _ (entries : Entries) (variables : List ℕ) (root next : ℕ) (flat : HaveFlatTerms entries) (said : AreVariables entries variables)
    (above : (n : ℕ) → Contains variables n → n < root) (is_next : next ≡ suc root) where
  safe_head : (term : Term) → Contains (head_of variables) term → IsFixedBy (atoms_of 0 entries root next) term
  safe_head term inside = elim (Contains-cases (Const []) (map Plain variables) term inside) [
    | inl is ↦ inl ([], sym is)
    | inr later ↦
        let found = Contains-map_from Plain variables term later in
        inr (subst (facts.Mentions (atoms_of 0 entries root next)) found.2 (said_in_atoms 0 entries root next (Plain found.0) ((said found.0).0 found.1)))
  ]

  flat_head : (term : Term) → Contains (head_of variables) term → IsFlat term
  flat_head term inside = elim (Contains-cases (Const []) (map Plain variables) term inside) [
    | inl is ↦ inl ([], sym is)
    | inr later ↦ let found = Contains-map_from Plain variables term later in inr (found.0, sym found.2)
  ]

  flat_body : AreFlat (atoms_of 0 entries root next)
  flat_body =
      atoms_have IsFlat (next + used entries) (λ text. inl (text, refl)) (λ n low. inr (n, refl)) 0 entries root next (omega (arith, is_next))
      (omega arith) flat

  named_body : (names : List Name) → length names ≡ next + used entries → AreNamed names (atoms_of 0 entries root next)
  named_body names long v there =
      let fresh = fresh_numbers entries variables root next said above is_next in
      let low : v < next + used entries =
      atoms_have (IsBelow (next + used entries)) (next + used entries) (below_const (next + used entries)) (below_plain (next + used entries))
      0 entries root next (omega (arith, is_next)) (omega arith)
      (λ term h. below_more next (next + used entries) (omega arith) term (fresh.below term h)) (Plain v) there v refl in
      omega (arith, low, long)

  pub sound_query : (head : List Term) (body : List (Fact Term)) (names : List Name) → head ≡ head_of variables → body ≡ atoms_of 0 entries root next
      → length names ≡ next + used entries → IsSound head body names
  sound_query head body names is_head is_body long = rw (is_head, is_body) (record {
    query = record {
      has_head = λ is. cc;
      has_body = λ is. cc;
      flat_head = flat_head;
      flat_body = flat_body;
      safe = safe_head;
    };
    named = named_body names long;
  })

-- ---- a row

pub given_turn : (known next : Assignment) (variables : List ℕ) (row : List Term) (i v : ℕ) (term : Term) {whole : Assignment} → i < length variables
    → i + 1 < length row → v ≡ get_or variables i v → term ≡ get_or row (i + 1) term → next ≡ insert known v term
    → given known (drop i variables) (drop (i + 1) row) ≡ whole → given next (drop (i + 1) variables) (drop (i + 1 + 1) row) ≡ whole
given_turn known next variables row i v term {whole} here there is at put so_far =
    rw put (subst (λ (terms : List Term). given known (v ∷ drop (i + 1) variables) terms ≡ whole) (drop-item row (i + 1) term there at)
    (subst (λ (vs : List ℕ). given known vs (drop (i + 1) row) ≡ whole) (drop-item variables i v here is) so_far))

pub given_end : (known : Assignment) (variables : List ℕ) (row : List Term) (i : ℕ) {whole : Assignment} → length variables ≤ i
    → given known (drop i variables) (drop (i + 1) row) ≡ whole → known ≡ whole
given_end known variables row i {whole} past so_far =
    subst (λ (vs : List ℕ). given known vs (drop (i + 1) row) ≡ whole) (drop_all i variables past) so_far

-- what holds after a success
pub on_ok_then : {T E : Type 0} {P Q : Type 0} (result : Result T E) → (P → Q) → OnOk result P → OnOk result Q
on_ok_then (Ok value) f known = f known
on_ok_then (Err error) f known = tt

-- the variable that is put at the end is the term's
pub variable_put : (old new : List ℕ) (term : Term) (variable : ℕ) → term ≡ Plain variable → new ≡ old ++ variable ∷ []
    → Adds old new (λ v. term ≡ Plain v)
variable_put old new term variable is put v = (
  λ inside. elim (Contains-push_cases old variable v (subst (λ (them : List ℕ). Contains them v) put inside)) [
    | inl there ↦ inl there
    | inr same ↦ inr (is ∙ ap Plain same)
  ],
  λ either. subst (λ (them : List ℕ). Contains them v) (sym put) (elim either [
    | inl there ↦ Contains-append_left old (variable ∷ []) v there
    | inr same ↦ subst (Contains (old ++ variable ∷ [])) (same_variable variable v (sym is ∙ same)) (Contains-push old variable)
  ]),
) where
  same_variable : (a b : ℕ) → Plain a ≡ Plain b → a ≡ b
  same_variable a b e = cc e

pub variables_all : (first now sorted : List ℕ) (slice entries : List Entry) → first ≡ [] → slice ≡ entries
    → Adds first now (λ v. Mentions (entries_of slice) (Plain v)) → ((v : ℕ) → Contains sorted v ↔ Contains now v) → AreVariables (entries_of entries) sorted
variables_all first now sorted slice entries nothing is added same v = (
  λ inside. elim ((added v).0 ((same v).0 inside)) [
    | inl old ↦ absurd (Contains-nil v (subst (λ (vs : List ℕ). Contains vs v) nothing old))
    | inr said ↦ subst (λ (es : List Entry). Mentions (entries_of es) (Plain v)) is said
  ],
  λ said. (same v).1 ((added v).1 (inr (subst (λ (es : List Entry). Mentions (entries_of es) (Plain v)) (sym is) said))),
)
