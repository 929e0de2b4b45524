-- Relations of rows of codes, one of which is set anew.
use Rattle.std.proofs.Common.{◌≡◌, ◌≢◌, inl, inr, ℕ, zero, suc, ◌<◌, List, [], ◌∷◌, ◌++◌, map, length, set, get_or, Some, slice_get, Contains, refl, sym, ap}
use Rattle.std.proofs.Common.{◌∙◌, subst}
use Rattle.std.specs.List.{AllZip}
use Rattle.std.proofs.lemmas.Option.{same_Some, slice_get_within}
use Rattle.esto_columns.specs.CodedRows.{CodedRows}
use Rattle.esto_columns.specs.Interned.{Grows}
use Rattle.esto_columns.specs.declared.stored.StoredRows.{StoredRows}
use Rattle.esto_semantics.specs.declared.fact.Fact.{Fact}
use Rattle.esto_term.specs.declared.term.Term.{Term}
use Rattle.esto_term.proofs.ListLemmas.{Contains-nil, Contains-head, Contains-rest, Contains-cases, Contains-map_from, map_at-from}
use Rattle.esto_term.proofs.PlaceLemmas.{item_at}
use Rattle.esto_coded.specs.Coded.{StandFor, StandInOrder, arities_of, rows_in}
use Rattle.esto_coded.specs.Relations.{AreWhole, coded_of, no_rows}
use Rattle.esto_coded.proofs.StandLemmas.{IsFactRow, IsRowFor, order_put, stand_put}

-- ---- relations without rows

pub none_whole : (arities : List ℕ) (relations : List StoredRows) → relations ≡ map no_rows arities → AreWhole relations
none_whole arities relations are relation inside =
    let own = Contains-map_from no_rows arities relation (subst (λ them. Contains them relation) are inside) in
    ap (λ (it : StoredRows). it.ways) (sym own.2)

pub none_arities : (texts : List (List ℕ)) (arities : List ℕ) (relations : List StoredRows) → relations ≡ map no_rows arities
    → arities_of (coded_of texts relations) ≡ arities
none_arities texts arities relations are = ap (λ them. arities_of (coded_of texts them)) are ∙ go arities
  where
    go : (them : List ℕ) → arities_of (coded_of texts (map no_rows them)) ≡ them
    go [] = refl
    go (arity ∷ rest) = ap (λ others. arity ∷ others) (go rest)

none_held : (arities : List ℕ) (number : ℕ) → rows_in (map (λ (stored : StoredRows). stored.rows) (map no_rows arities)) number ≡ []
none_held [] number = refl
none_held (arity ∷ rest) zero = refl
none_held (arity ∷ rest) (suc number) = none_held rest number

pub none_stand : (texts : List (List ℕ)) (arities : List ℕ) (relations : List StoredRows) → relations ≡ map no_rows arities
    → StandFor (coded_of texts relations) []
none_stand texts arities relations are = record {
  has = λ fact inside. absurd (Contains-nil fact inside);
  only = λ relation codes inside. absurd (Contains-nil codes (subst (λ them. Contains them codes)
      (ap (λ them. rows_in (map (λ (stored : StoredRows). stored.rows) them) relation) are ∙ none_held arities relation) inside));
}

pub none_ordered : (texts : List (List ℕ)) (arities : List ℕ) (relations : List StoredRows) → relations ≡ map no_rows arities
    → StandInOrder (coded_of texts relations) []
none_ordered texts arities relations are relation = subst (AllZip (IsFactRow texts) [])
    (sym (ap (λ them. rows_in (map (λ (stored : StoredRows). stored.rows) them) relation) are ∙ none_held arities relation)) tt

-- ---- a relation and its number

pub place_of : (texts : List (List ℕ)) (relations : List StoredRows) (number arity : ℕ) → slice_get (arities_of (coded_of texts relations)) number ≡ Some arity
    → (own : StoredRows) × (slice_get relations number ≡ Some own) × (own.rows.arity ≡ arity)
place_of texts relations number arity at =
    let columns = map_at-from (λ (it : CodedRows). it.arity) (map (λ (stored : StoredRows). stored.rows) relations) number arity at in
    let own = map_at-from (λ (stored : StoredRows). stored.rows) relations number columns.0 columns.1 in
    (own.0, own.1, ap (λ (it : CodedRows). it.arity) own.2 ∙ columns.2)

pub place_within : (texts : List (List ℕ)) (relations : List StoredRows) (number arity : ℕ)
    → slice_get (arities_of (coded_of texts relations)) number ≡ Some arity → number < length relations
place_within texts relations number arity at =
    let own = place_of texts relations number arity at in slice_get_within relations number own.0 own.1

pub place_long : (texts : List (List ℕ)) (relations : List StoredRows) (number arity : ℕ) (own : StoredRows)
    → slice_get (arities_of (coded_of texts relations)) number ≡ Some arity → own ≡ get_or relations number own → own.rows.arity ≡ arity
place_long texts relations number arity own at is =
    let found = place_of texts relations number arity at in
    let here = item_at relations number own (slice_get_within relations number found.0 found.1) is in
    ap (λ (it : StoredRows). it.rows.arity) (same_Some own found.0 (sym here ∙ found.1)) ∙ found.2

-- ---- a relation set anew

module _ (own new : StoredRows) where
  pub whole_set : (relations : List StoredRows) (number : ℕ) → slice_get relations number ≡ Some own → new.ways ≡ own.ways → AreWhole relations
      → AreWhole (set relations number new)
  whole_set [] number at same whole relation inside = absurd (cc)
  whole_set (first ∷ rest) zero at same whole relation inside = elim (Contains-cases new rest relation inside) [
    | inl is ↦
        let here : first ≡ own = cc in
        ap (λ (it : StoredRows). it.ways) (sym is) ∙ same ∙ ap (λ (it : StoredRows). it.ways) (sym here) ∙ whole first (Contains-head first rest)
    | inr later ↦ whole relation (Contains-rest first rest relation later)
  ]
  whole_set (first ∷ rest) (suc number) at same whole relation inside = elim (Contains-cases first (set rest number new) relation inside) [
    | inl is ↦ ap (λ (it : StoredRows). it.ways) (sym is) ∙ whole first (Contains-head first rest)
    | inr later ↦ whole_set rest number at same (λ it among. whole it (Contains-rest first rest it among)) relation later
  ]

  pub arities_set : (texts others : List (List ℕ)) (relations : List StoredRows) (number : ℕ) → slice_get relations number ≡ Some own
      → new.rows.arity ≡ own.rows.arity → arities_of (coded_of texts (set relations number new)) ≡ arities_of (coded_of others relations)
  arities_set texts others [] number at same = absurd (cc)
  arities_set texts others (first ∷ rest) zero at same =
      let here : first ≡ own = cc in
      ap (λ arity. arity ∷ arities_of (coded_of others rest)) (same ∙ ap (λ (it : StoredRows). it.rows.arity) (sym here))
  arities_set texts others (first ∷ rest) (suc number) at same = ap (λ them. first.rows.arity ∷ them) (arities_set texts others rest number at same)

  rows_here : (relations : List StoredRows) (number : ℕ) (added : List (List ℕ)) → slice_get relations number ≡ Some own
      → new.rows.rows ≡ own.rows.rows ++ added
      → rows_in (map (λ (stored : StoredRows). stored.rows) (set relations number new)) number
      ≡ rows_in (map (λ (stored : StoredRows). stored.rows) relations) number ++ added
  rows_here [] number added at more = absurd (cc)
  rows_here (first ∷ rest) zero added at more =
      let here : first ≡ own = cc in more ∙ ap (λ (it : StoredRows). it.rows.rows ++ added) (sym here)
  rows_here (first ∷ rest) (suc number) added at more = rows_here rest number added at more

  rows_others : (relations : List StoredRows) (number other : ℕ) → other ≢ number
      → rows_in (map (λ (stored : StoredRows). stored.rows) (set relations number new)) other
      ≡ rows_in (map (λ (stored : StoredRows). stored.rows) relations) other
  rows_others [] number other apart = refl
  rows_others (first ∷ rest) zero zero apart = absurd (apart refl)
  rows_others (first ∷ rest) zero (suc other) apart = refl
  rows_others (first ∷ rest) (suc number) zero apart = refl
  rows_others (first ∷ rest) (suc number) (suc other) apart = rows_others rest number other (λ same. apart (ap suc same))

  -- rows of codes that are put stand for facts more
  pub stand_set : (texts more : List (List ℕ)) (relations : List StoredRows) (number : ℕ) (added : List (List ℕ)) → Grows texts more
      → slice_get relations number ≡ Some own → new.rows.rows ≡ own.rows.rows ++ added → (facts others : List (Fact Term))
      → AllZip (IsRowFor more number) others added → StandFor (coded_of texts relations) facts
      → StandFor (coded_of more (set relations number new)) (facts ++ others)
  stand_set texts more relations number added grown at are facts others codes stand =
      stand_put (coded_of texts relations) (coded_of more (set relations number new)) number added grown (rows_here relations number added at are)
      (λ other apart. rows_others relations number other apart) facts others codes stand

  -- and so in order
  pub order_set : (texts more : List (List ℕ)) (relations : List StoredRows) (number : ℕ) (added : List (List ℕ)) → Grows texts more
      → slice_get relations number ≡ Some own → new.rows.rows ≡ own.rows.rows ++ added → (facts others : List (Fact Term))
      → AllZip (IsRowFor more number) others added → StandInOrder (coded_of texts relations) facts
      → StandInOrder (coded_of more (set relations number new)) (facts ++ others)
  order_set texts more relations number added grown at are facts others codes stand =
      order_put (coded_of texts relations) (coded_of more (set relations number new)) number added grown (rows_here relations number added at are)
      (λ other apart. rows_others relations number other apart) facts others codes stand
