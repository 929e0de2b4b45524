-- Indexes of rows, row by row.
use Rattle.std.proofs.Common.{◌≡◌, ◌⊎◌, inl, inr, ℕ, ◌+◌, ◌<◌, ◌≤◌, Bool, true, false, List, [], ◌∷◌, ◌++◌, map, length, take, Some, slice_get, refl, sym, ap}
use Rattle.std.proofs.Common.{◌∙◌, subst, arith}
use Rattle.std.proofs.lemmas.Bool.{cases_order}
use Rattle.std.proofs.lemmas.List.{length-append, take_all}
use Rattle.std.proofs.lemmas.Option.{none-some, slice_get_within}
use Rattle.esto_term.proofs.ListLemmas.{Contains-at, at_left, at_end, at_pushed, map_at, place-from_Contains}
use Rattle.esto_term.proofs.PlaceLemmas.{take-there}
use Rattle.esto_columns.specs.Indexed.{Index, IsIndexOf, LeadsOn, AreChains, bucket_of}
use Rattle.esto_columns.proofs.IndexLemmas.{OwnsLast}
use Rattle.esto_steps.specs.declared.steps.Get.{Get}
use Rattle.esto_steps.specs.declared.steps.Source.{Source}
use Rattle.esto_steps.specs.Meaning.{Follows}
use Rattle.esto_steps.specs.Indexed.{FindsRows}
use Rattle.esto_steps.specs.Joined.{IsFollower, IsFollowerAt, IsKept, GainsOnly}
use Rattle.esto_steps.specs.Named.{NamesCodes, Names}
use Rattle.esto_steps.proofs.NamedLemmas.{one_key}

pub finds_none : (columns : List Source) (index : Index) → IsIndexOf index [] → FindsRows [] columns index
finds_none columns index is = ([], is, record { long = refl; named = λ place row codes at named. absurd (none-some row at) })

pub finds_more : (columns : List Source) (rows : List (List ℕ)) (count : ℕ) (row given key own : List ℕ) (index new : Index) → count < length rows
    → slice_get rows count ≡ Some row → given ≡ row
    → ((codes : List ℕ) → NamesCodes given columns codes → codes ≡ key) → own ≡ key → FindsRows (take count rows) columns index
    → ((keys : List (List ℕ)) → IsIndexOf index keys → IsIndexOf new (keys ++ own ∷ [])) → FindsRows (take (count + 1) rows) columns new
finds_more columns rows count row given key own index new below is same named own_is (keys, before, are) added =
    let more : take (count + 1) rows ≡ take count rows ++ row ∷ [] =
    take-there rows count row is in (
      keys ++ own ∷ [],
      added keys before,
      record {
        long = length-append keys (own ∷ []) ∙ ap (λ n. n + 1) are.long ∙ sym (length-append (take count rows) (row ∷ [])) ∙ ap length (sym more);
        named = λ place found codes at codes_named.
            elim (at_pushed (take count rows) row place found (subst (λ them. slice_get them place ≡ Some found) more at)) [
              | inl old ↦ at_left keys (own ∷ []) place codes (are.named place found codes old codes_named)
              | inr last ↦ ap (slice_get (keys ++ own ∷ [])) (last.0 ∙ sym are.long) ∙ at_end keys own
                  ∙ ap Some (own_is ∙ sym (named codes (subst (λ it. NamesCodes it columns codes) (sym (same ∙ last.1)) codes_named)))
            ];
      },
    )

-- the key is that of the row, where the columns name codes in it
pub key_told : (row : List ℕ) (columns : List Source) (key : List ℕ) (all : Bool) → Names row columns key all → (codes : List ℕ)
    → NamesCodes row columns codes → codes ≡ key
key_told row columns key true named codes also = one_key row columns codes key also named
key_told row columns key false none codes also = absurd (none (codes, also))

pub finds_all : (columns : List Source) (rows : List (List ℕ)) (count : ℕ) (index : Index) → length rows ≤ count
    → FindsRows (take count rows) columns index → FindsRows rows columns index
finds_all columns rows count index past finds = subst (λ them. FindsRows them columns index) (take_all count rows past) finds

-- ---- a walk along the chain of a bucket, from its last place to its first

-- what the new rows gain is exactly what the places of the bucket from `next` on give
abbrev pub FromNext : (ℕ → List ℕ → Type 0) → List ℕ → ℕ → ℕ → List ℕ → Type 0
FromNext Gives buckets bucket next both = (place : ℕ) × (next ≤ place) × (slice_get buckets place ≡ Some bucket) × Gives place both

pub record Walked (Gives : ℕ → List ℕ → Type 0) (buckets : List ℕ) (bucket next : ℕ) (start new : List (List ℕ)) : Type 0 where
  pub own : OwnsLast buckets bucket next
  pub gains : GainsOnly start new (FromNext Gives buckets bucket next)

module _ (Gives : ℕ → List ℕ → Type 0) (buckets : List ℕ) (bucket : ℕ) (start : List (List ℕ)) where
  pub walk_start : (next : ℕ) → LeadsOn buckets bucket (length buckets) next → Walked Gives buckets bucket next start start
  walk_start next leads = record {
    own = leads.own;
    gains = λ both. (
      (λ has. inl has),
      (λ has. elim has [
        | inl old ↦ old
        | inr (place, past, at, gives) ↦
            absurd (let below = leads.past place (slice_get_within buckets place bucket at) at in omega (arith, below, past))
      ]),
    );
  }

  pub walk_on : (next place then : ℕ) (old new : List (List ℕ)) → place + 1 ≡ next → LeadsOn buckets bucket place then
      → Walked Gives buckets bucket next start old → GainsOnly old new (Gives place) → Walked Gives buckets bucket then start new
  walk_on next place then old new is leads walked gains = record {
    own = leads.own;
    gains = λ both. (
      (λ has. elim ((gains both).0 has) [
        | inl before ↦ elim ((walked.gains both).0 before) [
          | inl in_start ↦ inl in_start
          | inr (other, past, at, gives) ↦ let within = leads.within in inr (other, omega (arith, past, is, within), at, gives)
        ]
        | inr gives ↦ inr (place, leads.within, walked.own place is, gives)
      ]),
      (λ has. (gains both).1 (elim has [
        | inl in_start ↦ inl ((walked.gains both).1 (inl in_start))
        | inr (other, past, at, gives) ↦ elim (below_or_same other) [
          | inl under ↦ absurd (let before = leads.past other under at in omega (arith, before, past))
          | inr (inl same) ↦ inr (subst (λ it. Gives it both) same gives)
          | inr (inr later) ↦ inl ((walked.gains both).1 (inr (other, later, at, gives)))
        ]
      ])),
    );
  }
    where
      below_or_same : (other : ℕ) → (other < place) ⊎ ((other ≡ place) ⊎ (next ≤ other))
      below_or_same other = elim (cases_order other place) [
        | inl same ↦ inr (inl same)
        | inr (inl under) ↦ inl under
        | inr (inr past) ↦ inr (inr (omega (arith, is, past)))
      ]

  pub walk_end : (next : ℕ) (new : List (List ℕ)) → next ≤ 0 → Walked Gives buckets bucket next start new
      → GainsOnly start new (λ both. (place : ℕ) × (slice_get buckets place ≡ Some bucket) × Gives place both)
  walk_end next new none walked both = (
    (λ has. elim ((walked.gains both).0 has) [ inl in_start ↦ inl in_start | inr (place, past, at, gives) ↦ inr (place, at, gives) ]),
    (λ has. (walked.gains both).1 (elim has [
      | inl in_start ↦ inl in_start
      | inr (place, at, gives) ↦ inr (place, omega (arith, none), at, gives)
    ])),
  )

-- the chain of a key's bucket has all followers
pub followers_found : (get : Get) (kept : List Source) (cells : List ℕ) (rows old new : List (List ℕ)) (sources columns : List Source) (index : Index)
    (key : List ℕ) → NamesCodes cells sources key
    → ((row : List ℕ) → Follows get cells row → (codes : List ℕ) × NamesCodes cells sources codes × NamesCodes row columns codes)
    → FindsRows rows columns index
    → ((buckets : List ℕ) → AreChains index buckets → GainsOnly old new (λ it. (place : ℕ)
    × (slice_get buckets place ≡ Some (bucket_of (length index.last) key)) × IsKept kept (IsFollowerAt get cells rows place) it))
    → GainsOnly old new (IsKept kept (IsFollower get cells rows))
followers_found get kept cells rows old new sources columns index key named names (keys, are, of) gains it = (
  (λ has. elim ((gains (map (bucket_of (length index.last)) keys) are it).0 has) [
    | inl before ↦ inl before
    | inr (place, in_bucket, (both, follower, keeps)) ↦
        inr (both, (follower.0, Contains-at rows place follower.0 follower.1, follower.2, follower.3), keeps)
  ]),
  (λ has. (gains (map (bucket_of (length index.last)) keys) are it).1 (elim has [
    | inl before ↦ inl before
    | inr (both, (row, among, follows, is), keeps) ↦
        let at = place-from_Contains rows row among in let codes = names row follows in
        inr (
          at.0,
          map_at (bucket_of (length index.last)) keys at.0 key
              (of.named at.0 row key at.1 (subst (NamesCodes row columns) (one_key cells sources codes.0 key codes.1 named) codes.2)),
          (both, (row, at.1, follows, is), keeps),
        )
  ])),
)

-- no row follows cells in which the sources of its key name no codes
pub followers_none : (get : Get) (kept : List Source) (cells : List ℕ) (rows old : List (List ℕ)) (sources columns : List Source)
    → ((codes : List ℕ) × NamesCodes cells sources codes → ⊥)
    → ((row : List ℕ) → Follows get cells row → (codes : List ℕ) × NamesCodes cells sources codes × NamesCodes row columns codes)
    → GainsOnly old old (IsKept kept (IsFollower get cells rows))
followers_none get kept cells rows old sources columns none names it = (
  λ has. inl has,
  λ has. elim has [
    | inl before ↦ before
    | inr (both, (row, among, follows, is), keeps) ↦ absurd (none (let codes = names row follows in (codes.0, codes.1)))
  ],
)
