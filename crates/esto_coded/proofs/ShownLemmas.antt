-- Codes of nodes in columns.
use Rattle.std.proofs.Common.{◌≡◌, ◌↔◌, inl, inr, ℕ, zero, suc, ◌+◌, ◌<◌, ◌≤◌, Bool, false, List, [], ◌∷◌, map, length, get_or, Some, Contains, refl, sym, ap}
use Rattle.std.proofs.Common.{◌∙◌, subst, arith, IsTrue}
use Rattle.std.proofs.lemmas.Bool.{cases_order, false≢true}
use Rattle.std.proofs.lemmas.Option.{slice_get_within, slice_get-get_or, get_or_from_slice_get}
use Rattle.esto_columns.specs.declared.stored.StoredRows.{StoredRows}
use Rattle.esto_term.proofs.ListLemmas.{Contains-nil, Contains-map, Contains-map_from}
use Rattle.esto_coded.specs.Coded.{rows_in}
use Rattle.esto_coded.specs.Shown.{HasNodeAt}
use Rattle.esto_coded.specs.declared.coded.TheConstants.{FIRST_NODE}
use Rattle.esto_rows.proofs.SameLemmas.{is_not}

-- one of the rows has the code of a node in the column
abbrev pub NodeIn : List (List ℕ) → ℕ → Type 0
NodeIn rows column = (row : List ℕ) × Contains rows row × HasNodeAt column row

module _ (rows : List (List ℕ)) (arity column : ℕ) (long : (it : List ℕ) → Contains rows it → length it ≡ arity) where
  pub node_within : NodeIn rows column → column < arity
  node_within (row, inside, (code, at, past)) = subst (λ count. column < count) (long row inside) (slice_get_within row column code at)

  -- the codes of the column tell it
  pub node_told : (codes : List ℕ) (answer : Bool) → column < arity → codes ≡ map (λ row. get_or row column 0) rows
      → IsTrue answer ↔ ((code : ℕ) × Contains codes code × (FIRST_NODE ≤ code)) → IsTrue answer ↔ NodeIn rows column
  node_told codes answer within is told = (
    λ yes. let found = told.0 yes in
        let own = Contains-map_from (λ row. get_or row column 0) rows found.0 (subst (λ them. Contains them found.0) is found.1) in
        (own.0, own.1, (found.0, slice_get-get_or own.0 column 0 (subst (λ count. column < count) (sym (long own.0 own.1)) within) ∙ ap Some own.2, found.2)),
    λ (row, inside, (code, at, past)). told.1 (
      code,
      subst (λ them. Contains them code) (sym is) (subst (Contains (map (λ it. get_or it column 0) rows))
          (get_or_from_slice_get row column code 0 at) (Contains-map (λ it. get_or it column 0) rows row inside)),
      past,
    ),
  )

  pub none_told : arity ≤ column → IsTrue false ↔ NodeIn rows column
  none_told past = (λ wrong. absurd (false≢true wrong), λ node. let within = node_within node in absurd (omega (arith, within, past)))

-- ---- the least column

-- none of the columns before has one
abbrev pub NoneBelow : List (List ℕ) → ℕ → Type 0
NoneBelow rows count = (row : List ℕ) (lesser : ℕ) → Contains rows row → lesser < count → HasNodeAt lesser row → ⊥

pub none_more : (rows : List (List ℕ)) (count : ℕ) → (NodeIn rows count → ⊥) → NoneBelow rows count → NoneBelow rows (count + 1)
none_more rows count none before row lesser inside under node = elim (cases_order lesser count) [
  | inl same ↦ none (row, inside, subst (λ it. HasNodeAt it row) same node)
  | inr (inl less) ↦ before row lesser inside less node
  | inr (inr past) ↦ omega (arith, past, under)
]

pub is_least : (rows : List (List ℕ)) (count : ℕ) → NoneBelow rows count → (row : List ℕ) (lesser : ℕ) → Contains rows row
    → HasNodeAt lesser row → count ≤ lesser
is_least rows count before row lesser inside node = elim (cases_order lesser count) [
  | inl same ↦ omega (arith, same)
  | inr (inl less) ↦ absurd (before row lesser inside less node)
  | inr (inr past) ↦ omega (arith, past)
]

-- ---- the rows of a relation

pub held_there : (relations : List StoredRows) (number : ℕ) (own : StoredRows) → number < length relations → own ≡ get_or relations number own
    → rows_in (map (λ (stored : StoredRows). stored.rows) relations) number ≡ own.rows.rows
held_there [] number own within is = absurd (omega (arith, within))
held_there (first ∷ rest) zero own within is = ap (λ (it : StoredRows). it.rows.rows) (sym is)
held_there (first ∷ rest) (suc number) own within is = held_there rest number own (omega (arith, within)) is

pub held_past : (relations : List StoredRows) (number : ℕ) → length relations ≤ number
    → rows_in (map (λ (stored : StoredRows). stored.rows) relations) number ≡ []
held_past [] number past = refl
held_past (first ∷ rest) zero past = absurd (omega (arith, past))
held_past (first ∷ rest) (suc number) past = held_past rest number (omega (arith, past))

pub none_in : (rows : List (List ℕ)) (column : ℕ) → rows ≡ [] → IsTrue false ↔ NodeIn rows column
none_in rows column empty = is_not (λ node. Contains-nil node.0 (subst (λ them. Contains them node.0) empty node.1))
