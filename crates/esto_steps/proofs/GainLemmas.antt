-- What a join gains.
use Rattle.std.proofs.Common.{◌≡◌, ◌↔◌, inl, inr, ℕ, ◌+◌, ◌≤◌, List, [], ◌∷◌, ◌++◌, length, take, Some}
use Rattle.std.proofs.Common.{slice_get, Contains, sym, ap, ◌∙◌, subst}
use Rattle.std.proofs.lemmas.List.{append_assoc, map-append, take_all}
use Rattle.std.proofs.lemmas.List.Elements.{Contains-append_cases, Contains-append_left, Contains-append_right, Contains-push, Contains-push_cases}
use Rattle.esto_columns.specs.CodedRows.{CodedRows}
use Rattle.esto_term.proofs.ListLemmas.{Contains-nil}
use Rattle.esto_term.proofs.PlaceLemmas.{take-there}
use Rattle.esto_steps.specs.declared.pairs.Pair.{Pair}
use Rattle.esto_steps.specs.declared.steps.Get.{Get}
use Rattle.esto_steps.specs.declared.steps.Source.{Source}
use Rattle.esto_steps.specs.Joined.{IsJoin, IsKept, GainsOnly}
use Rattle.esto_steps.specs.Named.{NamesCodes}
use Rattle.esto_steps.specs.Paired.{kept_of, kept_rows, Gained, gained_rows, NameNone}

pub put_gains : (old new : List (List ℕ)) (row : List ℕ) → new ≡ old ++ row ∷ [] → GainsOnly old new (λ it. row ≡ it)
put_gains old new row grown it = (
  λ has. Contains-push_cases old row it (subst (λ them. Contains them it) grown has),
  λ has. subst (λ them. Contains them it) (sym grown) (elim has [
    | inl before ↦ Contains-append_left old (row ∷ []) it before
    | inr same ↦ subst (Contains (old ++ row ∷ [])) same (Contains-push old row)
  ]),
)

-- what one of two lists has, they have in the other order too
Contains-swapped : (xs ys : List (List ℕ)) (row : List ℕ) → Contains (xs ++ ys) row → Contains (ys ++ xs) row
Contains-swapped xs ys row has = elim (Contains-append_cases xs ys row has) [
  | inl left ↦ Contains-append_right ys xs row left
  | inr right ↦ Contains-append_left ys xs row right
]

-- nothing is gained by a pair that is the same in what is kept as one before it
pub same_gains : (old new : List (List ℕ)) (row : List ℕ) → new ≡ old → Contains old row → GainsOnly old new (λ it. row ≡ it)
same_gains old new row same inside it = (
  λ has. inl (subst (λ them. Contains them it) same has),
  λ has. subst (λ them. Contains them it) (sym same) (elim has [ inl before ↦ before | inr is ↦ subst (Contains old) is inside ]),
)

-- what is gained after the next stretch begins is gained
pub gains_after : (old begun new : List (List ℕ)) (Has : List ℕ → Type 0) → begun ≡ old → GainsOnly begun new Has → GainsOnly old new Has
gains_after old begun new Has same gains = subst (λ it. GainsOnly it new Has) same gains

-- ---- joins of which nothing is kept, and of which all that is gained is

-- no joined row is kept where the sources name no codes
pub joins_unnamed : (get : Get) (kept : List Source) (so_far rows new : List (List ℕ)) → new ≡ [] → NameNone kept so_far rows → (row : List ℕ)
    → Contains new row ↔ IsKept kept (IsJoin get so_far rows) row
joins_unnamed get kept so_far rows new empty none row = (
  λ has. absurd (Contains-nil row (subst (λ them. Contains them row) empty has)),
  λ (both, (cells, own, among, inside, follows, is), names). absurd (none cells own among inside (row, subst (λ them. NamesCodes them kept row) is names)),
)

-- rows that are those that are gained are what is kept
pub joins_gained : (kept : List Source) (so_far rows it : CodedRows) (gained : Gained) (Has : List ℕ → Type 0)
    → ((row : List ℕ) → Contains it.rows row ↔ Contains (gained_rows kept so_far rows gained) row)
    → ((row : List ℕ) → Contains (gained_rows kept so_far rows gained) row ↔ Has row) → (row : List ℕ) → Contains it.rows row ↔ Has row
joins_gained kept so_far rows it gained Has same joins row =
    (λ has. (joins row).0 ((same row).0 has), λ has. (same row).1 ((joins row).1 has))

-- ---- what is gained

module _ (kept : List Source) (so_far rows : CodedRows) where
  -- a row of its own that is put
  pub own_pushed : (old new : Gained) (row : List ℕ) → new.own.rows ≡ old.own.rows ++ row ∷ [] → new.pairs ≡ old.pairs
      → GainsOnly (gained_rows kept so_far rows old) (gained_rows kept so_far rows new) (λ it. row ≡ it)
  own_pushed old new row grown same it = (
    λ has. elim (Contains-append_cases new.own.rows (kept_rows kept so_far rows new.pairs) it has) [
      | inl own ↦ elim (Contains-push_cases old.own.rows row it (subst (λ them. Contains them it) grown own)) [
        | inl before ↦ inl (Contains-append_left old.own.rows (kept_rows kept so_far rows old.pairs) it before)
        | inr is ↦ inr is
      ]
      | inr later ↦ inl (Contains-append_right old.own.rows (kept_rows kept so_far rows old.pairs) it
          (subst (λ them. Contains (kept_rows kept so_far rows them) it) same later))
    ],
    λ has. elim has [
      | inl before ↦ elim (Contains-append_cases old.own.rows (kept_rows kept so_far rows old.pairs) it before) [
        | inl own ↦ Contains-append_left new.own.rows (kept_rows kept so_far rows new.pairs) it
            (subst (λ them. Contains them it) (sym grown) (Contains-append_left old.own.rows (row ∷ []) it own))
        | inr later ↦ Contains-append_right new.own.rows (kept_rows kept so_far rows new.pairs) it
            (subst (λ them. Contains (kept_rows kept so_far rows them) it) (sym same) later)
      ]
      | inr is ↦ Contains-append_left new.own.rows (kept_rows kept so_far rows new.pairs) it
          (subst (λ them. Contains them it) (sym grown) (subst (Contains (old.own.rows ++ row ∷ [])) is (Contains-push old.own.rows row)))
    ],
  )

  -- a pair that is put
  pub pair_pushed : (old new : Gained) (pair : Pair) → new.own.rows ≡ old.own.rows → new.pairs ≡ old.pairs ++ pair ∷ []
      → GainsOnly (gained_rows kept so_far rows old) (gained_rows kept so_far rows new) (λ it. kept_of kept so_far rows pair ≡ it)
  pair_pushed old new pair same grown =
      put_gains (gained_rows kept so_far rows old) (gained_rows kept so_far rows new) (kept_of kept so_far rows pair)
      ((λ i. same i ++ kept_rows kept so_far rows (grown i))
      ∙ ap (λ them. old.own.rows ++ them) (map-append (kept_of kept so_far rows) old.pairs (pair ∷ []))
      ∙ sym (append_assoc old.own.rows (kept_rows kept so_far rows old.pairs) (kept_of kept so_far rows pair ∷ [])))

  moved : (own before : List (List ℕ)) (code row : List ℕ) → Contains ((own ++ code ∷ []) ++ before) row ↔ Contains (own ++ (before ++ code ∷ [])) row
  moved own before code row = (
    λ has. elim (Contains-append_cases (own ++ code ∷ []) before row has) [
      | inl front ↦ elim (Contains-push_cases own code row front) [
        | inl old ↦ Contains-append_left own (before ++ code ∷ []) row old
        | inr is ↦ Contains-append_right own (before ++ code ∷ []) row (subst (Contains (before ++ code ∷ [])) is (Contains-push before code))
      ]
      | inr later ↦ Contains-append_right own (before ++ code ∷ []) row (Contains-append_left before (code ∷ []) row later)
    ],
    λ has. elim (Contains-append_cases own (before ++ code ∷ []) row has) [
      | inl old ↦ Contains-append_left (own ++ code ∷ []) before row (Contains-append_left own (code ∷ []) row old)
      | inr back ↦ elim (Contains-push_cases before code row back) [
        | inl later ↦ Contains-append_right (own ++ code ∷ []) before row later
        | inr is ↦ Contains-append_left (own ++ code ∷ []) before row (subst (Contains (own ++ code ∷ [])) is (Contains-push own code))
      ]
    ],
  )

  -- the last pair is made a row of its own
  pub last_moved : (old new : Gained) (at : ℕ) (pair : Pair) → slice_get old.pairs at ≡ Some pair → length old.pairs ≤ at + 1
      → new.own.rows ≡ old.own.rows ++ kept_of kept so_far rows pair ∷ [] → new.pairs ≡ take at old.pairs → (row : List ℕ)
      → Contains (gained_rows kept so_far rows new) row ↔ Contains (gained_rows kept so_far rows old) row
  last_moved old new at pair there last grown left row =
      let before = kept_rows kept so_far rows (take at old.pairs) in
      let code = kept_of kept so_far rows pair in
      let whole : kept_rows kept so_far rows old.pairs ≡ before ++ code ∷ [] =
      ap (kept_rows kept so_far rows) (sym (take_all (at + 1) old.pairs last) ∙ take-there old.pairs at pair there)
      ∙ map-append (kept_of kept so_far rows) (take at old.pairs) (pair ∷ []) in
      subst (λ them. Contains them row ↔ Contains (gained_rows kept so_far rows old) row)
      (λ i. sym grown i ++ kept_rows kept so_far rows (sym left i))
      (subst (λ them. Contains ((old.own.rows ++ code ∷ []) ++ before) row ↔ Contains (old.own.rows ++ them) row) (sym whole)
      (moved old.own.rows before code row))

  -- what is gained where what is kept of the pairs comes after the own rows, and before them
  pub own_and_more : (gained : Gained) (more all : CodedRows) → more ≡ record { arity = length kept; rows = kept_rows kept so_far rows gained.pairs }
      → all ≡ record { arity = gained.own.arity; rows = gained.own.rows ++ more.rows } → (row : List ℕ)
      → Contains all.rows row ↔ Contains (gained_rows kept so_far rows gained) row
  own_and_more gained more all is joined row = subst (λ them. Contains them row ↔ Contains (gained_rows kept so_far rows gained) row)
      (sym (ap (λ (it : CodedRows). it.rows) joined ∙ ap (λ (it : CodedRows). gained.own.rows ++ it.rows) is)) (λ has. has, λ has. has)

  pub more_and_own : (gained : Gained) (more all : CodedRows) → more ≡ record { arity = length kept; rows = kept_rows kept so_far rows gained.pairs }
      → all ≡ record { arity = more.arity; rows = more.rows ++ gained.own.rows } → (row : List ℕ)
      → Contains all.rows row ↔ Contains (gained_rows kept so_far rows gained) row
  more_and_own gained more all is joined row =
      let pairs = kept_rows kept so_far rows gained.pairs in
      let own = gained.own.rows in
      subst (λ them. Contains them row ↔ Contains (own ++ pairs) row)
      (sym (ap (λ (it : CodedRows). it.rows) joined ∙ ap (λ (it : CodedRows). it.rows ++ own) is))
      (Contains-swapped pairs own row, Contains-swapped own pairs row)

  -- what is gained from the first to the last of some that are the same
  pub gains_between : (old before after new : Gained) (Has : List ℕ → Type 0) → before ≡ old → new ≡ after
      → GainsOnly (gained_rows kept so_far rows before) (gained_rows kept so_far rows after) Has
      → GainsOnly (gained_rows kept so_far rows old) (gained_rows kept so_far rows new) Has
  gains_between old before after new Has first last gains =
      subst (λ them. GainsOnly (gained_rows kept so_far rows them) (gained_rows kept so_far rows new) Has) first
      (subst (λ them. GainsOnly (gained_rows kept so_far rows before) (gained_rows kept so_far rows them) Has) (sym last) gains)

  -- what is gained is gained where more of it becomes rows
  pub gains_settled : (old before after new : Gained) (Has : List ℕ → Type 0) → before ≡ old
      → GainsOnly (gained_rows kept so_far rows before) (gained_rows kept so_far rows after) Has
      → ((row : List ℕ) → Contains (gained_rows kept so_far rows new) row ↔ Contains (gained_rows kept so_far rows after) row)
      → GainsOnly (gained_rows kept so_far rows old) (gained_rows kept so_far rows new) Has
  gains_settled old before after new Has first gains settled =
      subst (λ them. GainsOnly (gained_rows kept so_far rows them) (gained_rows kept so_far rows new) Has) first
      (λ it. (λ has. (gains it).0 ((settled it).0 has), λ has. (settled it).1 ((gains it).1 has)))

  pub same_between : (old before after new : Gained) → before ≡ old → new ≡ after
      → ((row : List ℕ) → Contains (gained_rows kept so_far rows after) row ↔ Contains (gained_rows kept so_far rows before) row) → (row : List ℕ)
      → Contains (gained_rows kept so_far rows new) row ↔ Contains (gained_rows kept so_far rows old) row
  same_between old before after new first last same row =
      subst (λ them. Contains (gained_rows kept so_far rows them) row ↔ Contains (gained_rows kept so_far rows old) row) (sym last)
      (subst (λ them. Contains (gained_rows kept so_far rows after) row ↔ Contains (gained_rows kept so_far rows them) row) first (same row))
