-- Rows that are found by the places that indexes give, and rows that are all looked at.
use Rattle.std.proofs.Common.{◌≡◌, inl, inr, ℕ, ◌+◌, ◌<◌, ◌≤◌, Bool, true, false, List, [], ◌∷◌, map, length, take, get_or, Option, Some, None}
use Rattle.std.proofs.Common.{Vec, Global, Contains, IsTrue, refl, sym, ap, ◌∙◌, subst, arith}
use Rattle.std.specs.Bool.{then_some}
use Rattle.std.specs.Prelude.{MatchOption}
use Rattle.std.proofs.lemmas.Bool.{cases_order}
use Rattle.std.proofs.lemmas.Option.{same_Some, get_or_from_slice_get, slice_get_within}
use Rattle.esto_term.proofs.ListLemmas.{Contains-nil, Contains-at, map_at, place-from_Contains}
use Rattle.esto_columns.specs.Indexed.{AreAmongPlaces, key_at}
use Rattle.esto_columns.specs.Picked.{places_where}
use Rattle.esto_steps.specs.declared.steps.Get.{Get}
use Rattle.esto_steps.specs.declared.steps.Link.{Link}
use Rattle.esto_steps.specs.declared.steps.Source.{Source}
use Rattle.esto_steps.specs.Meaning.{code_at, IsMet, Follows}
use Rattle.esto_steps.specs.Joined.{IsFollower, IsFollowerAt, IsKept, GainsOnly}
use Rattle.esto_steps.specs.Probed.{HaveMet, HaveAllMet}
use Rattle.esto_columns.proofs.StoredLemmas.{where_has}

-- ---- places of a key

-- the places of the code that the link's source names have all rows that meet it
pub key_has_met : (cells : List ℕ) (rows : List (List ℕ)) (link : Link) (code : ℕ) (places : List ℕ) → code_at cells link.source ≡ Some code
    → AreAmongPlaces (code ∷ []) (map (key_at (link.column ∷ [])) rows) places → HaveMet cells rows link places
key_has_met cells rows link code places named (test, passes, are) place row at met =
    let same : met.0 ≡ code = same_Some met.0 code (sym met.2 ∙ named) in
    let held : get_or row link.column 0 ≡ code = get_or_from_slice_get row link.column met.0 0 met.1 ∙ same in
    let told : test (key_at (link.column ∷ []) row) ≡ true = ap (λ it. test (it ∷ [])) held ∙ passes in
    subst (λ its. Contains its place) (sym are)
    (subst (Contains (places_where test 0 (map (key_at (link.column ∷ [])) rows))) (omega arith)
    (where_has test 0 (map (key_at (link.column ∷ [])) rows) place (key_at (link.column ∷ []) row) (map_at (key_at (link.column ∷ [])) rows place row at) told))

pub met_found : (cells : List ℕ) (rows : List (List ℕ)) (link : Link) (code : ℕ) (found : Option (Vec ℕ Global)) → code_at cells link.source ≡ Some code
    → MatchOption found (Unit {0}) (λ it. AreAmongPlaces (code ∷ []) (map (key_at (link.column ∷ [])) rows) it.items)
    → MatchOption found (Unit {0}) (λ it. HaveMet cells rows link it.items)
met_found cells rows link code None named are = are
met_found cells rows link code (Some places) named are = key_has_met cells rows link code places.items named are

-- what holds of a thing where all was gone through holds of it where it comes
pub come_through : {A : Type 0} (through : Bool) (it : A) (found : Option A) (P : A → Type 0) → found ≡ then_some through it → (IsTrue through → P it)
    → MatchOption found (Unit {0}) P
come_through true it found P is holds = subst (λ them. MatchOption them (Unit {0}) P) (sym is) (holds refl)
come_through false it found P is holds = subst (λ them. MatchOption them (Unit {0}) P) (sym is) tt

-- the places of one of the links serve for all of them
pub one_has_met : (cells : List ℕ) (rows : List (List ℕ)) (links : List Link) (link : Link) (places : List ℕ) → Contains links link
    → HaveMet cells rows link places → HaveAllMet cells rows links places
one_has_met cells rows links link places inside have place row at met = have place row at (met link inside)

-- ---- rows at places

pub gains_start : {X : Type 0} (things : List X) (Has : X → List ℕ → Type 0) (start : List (List ℕ))
    → GainsOnly start start (λ it. (x : X) × Contains (take 0 things) x × Has x it)
gains_start things Has start it = (λ has. inl has, λ has. elim has [ inl old ↦ old | inr (x, among, _) ↦ absurd (Contains-nil x among) ])

-- the rows at the places are all that follow, where each that follows meets the links
pub followers_reached : (get : Get) (kept : List Source) (cells : List ℕ) (rows old new : List (List ℕ)) (links : List Link) (places : List ℕ)
    → HaveAllMet cells rows links places
    → ((row : List ℕ) → Follows get cells row → (link : Link) → Contains links link → IsMet cells row link)
    → GainsOnly old new (λ it. (place : ℕ) × Contains places place × IsKept kept (IsFollowerAt get cells rows place) it)
    → GainsOnly old new (IsKept kept (IsFollower get cells rows))
followers_reached get kept cells rows old new links places have early gains it = (
  (λ has. elim ((gains it).0 has) [
    | inl before ↦ inl before
    | inr (place, among, (both, follower, keeps)) ↦
        inr (both, (follower.0, Contains-at rows place follower.0 follower.1, follower.2, follower.3), keeps)
  ]),
  (λ has. (gains it).1 (elim has [
    | inl before ↦ inl before
    | inr (both, (row, among, follows, is), keeps) ↦
        let at = place-from_Contains rows row among in
        inr (at.0, have at.0 row at.1 (early row follows), (both, (row, at.1, follows, is), keeps))
  ])),
)

-- ---- rows that are all looked at

module _ (get : Get) (kept : List Source) (cells : List ℕ) (rows start : List (List ℕ)) where
  -- what the first places give, so many
  abbrev pub FromBelow : ℕ → List ℕ → Type 0
  FromBelow count it = (place : ℕ) × (place < count) × IsKept kept (IsFollowerAt get cells rows place) it

  pub below_start : GainsOnly start start (FromBelow 0)
  below_start it = (λ has. inl has, λ has. elim has [ inl old ↦ old | inr (place, below, _) ↦ absurd (omega (arith, below)) ])

  pub below_more : (count : ℕ) (old new : List (List ℕ)) → GainsOnly start old (FromBelow count)
      → GainsOnly old new (IsKept kept (IsFollowerAt get cells rows count)) → GainsOnly start new (FromBelow (count + 1))
  below_more count old new before gains it = (
    λ has. elim ((gains it).0 has) [
      | inl in_old ↦ elim ((before it).0 in_old) [
        | inl in_start ↦ inl in_start
        | inr (place, below, gives) ↦ inr (place, omega (arith, below), gives)
      ]
      | inr gives ↦ inr (count, omega arith, gives)
    ],
    λ has. (gains it).1 (elim has [
      | inl in_start ↦ inl ((before it).1 (inl in_start))
      | inr (place, below, gives) ↦ elim (cases_order place count) [
        | inl same ↦ inr (subst (λ at. IsKept kept (IsFollowerAt get cells rows at) it) same gives)
        | inr (inl under) ↦ inl ((before it).1 (inr (place, under, gives)))
        | inr (inr past) ↦ absurd (omega (arith, past, below))
      ]
    ]),
  )

  pub below_end : (count : ℕ) (new : List (List ℕ)) → length rows ≤ count → GainsOnly start new (FromBelow count)
      → GainsOnly start new (IsKept kept (IsFollower get cells rows))
  below_end count new past gains it = (
    (λ has. elim ((gains it).0 has) [
      | inl before ↦ inl before
      | inr (place, below, (both, follower, keeps)) ↦
          inr (both, (follower.0, Contains-at rows place follower.0 follower.1, follower.2, follower.3), keeps)
    ]),
    (λ has. (gains it).1 (elim has [
      | inl before ↦ inl before
      | inr (both, (row, among, follows, is), keeps) ↦
          let at = place-from_Contains rows row among in
          let within = slice_get_within rows at.0 row at.1 in
          inr (at.0, omega (arith, within, past), (both, (row, at.1, follows, is), keeps))
    ])),
  )
