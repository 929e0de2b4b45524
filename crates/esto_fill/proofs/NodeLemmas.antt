-- The columns in which facts have nodes, and views whose rows have none.
use Rattle.std.proofs.Common.{◌≡◌, inl, inr, ℕ, Bool, true, false, ◌&&◌, ◌==◌, not, List, [], ◌∷◌, map, slice_get, Contains, refl, sym, ap, ◌∙◌, subst, arith}
use Rattle.std.proofs.lemmas.Bool.{and_parts, false≢true, or_left, or_right, and_from}
use Rattle.std.proofs.lemmas.Bool.Decides.{nat_tests}
use Rattle.std.specs.List.{list_any}
use Rattle.std.specs.Prelude.{◌||◌}
use Rattle.esto_semantics.specs.Facts.{image}
use Rattle.esto_semantics.specs.Queries.{ConjunctiveQuery, IsAnswer}
use Rattle.esto_semantics.specs.declared.fact.Fact.{Fact}
use Rattle.esto_semantics.specs.declared.fact.Value.{Value}
use Rattle.esto_semantics.specs.declared.fact.Value.TheVariants.{Text}
use Rattle.esto_stores.specs.Rows.{Row}
use Rattle.esto_term.proofs.ListLemmas.{Contains-cases, Contains-head, Contains-map_from, Contains-nil, Contains-rest, map_at, map_at-from}
use Rattle.esto_term.specs.declared.term.Term.{Term}
use Rattle.esto_fill.specs.Databases.{database_of, value_of}
use Rattle.esto_fill.specs.Nodes.{AreFree, CoverNodes, IsFreeIn, IsFreeView, column_of}
use Rattle.esto_fill.specs.Texts.{HaveTextsOnly, AreTextViews}
use Rattle.esto_fill.specs.declared.nodes.Column.{Column}
use Rattle.esto_fill.proofs.ValueLemmas.{told, value_Const}

-- ---- a column among others

pub not_false : (b : Bool) → not b ≡ true → b ≡ false
not_false true e = absurd (false≢true e)
not_false false e = refl

module _ (relation column : ℕ) where
  -- whether it is the column
  abbrev is_it : Column → Bool
  is_it it = (it.relation == relation) && (it.column == column)

  it_is : (it : Column) → is_it it ≡ true → it ≡ column_of relation column
  it_is it told_so =
      let parts = and_parts (it.relation == relation) (it.column == column) told_so in
      let one : it.relation ≡ relation = grind (arith, nat_tests, parts.0) in
      let two : it.column ≡ column = grind (arith, nat_tests, parts.1) in
      λ i. record { relation = one i; column = two i }

  is_told : (it : Column) → it ≡ column_of relation column → is_it it ≡ true
  is_told it is =
      let one : it.relation ≡ relation = ap (λ (its : Column). its.relation) is in
      let two : it.column ≡ column = ap (λ (its : Column). its.column) is in
      and_from (it.relation == relation) (it.column == column) (grind (arith, nat_tests, one)) (grind (arith, nat_tests, two))

  pub among : (columns : List Column) → list_any (λ it. (it.relation == relation) && (it.column == column)) columns ≡ true
      → Contains columns (column_of relation column)
  among [] any = absurd (false≢true any)
  among (first ∷ rest) any = go (λ later. among rest later) (is_it first) refl
    where
      go : (list_any (λ it. (it.relation == relation) && (it.column == column)) rest ≡ true → Contains rest (column_of relation column)) → (b : Bool)
          → is_it first ≡ b → Contains (first ∷ rest) (column_of relation column)
      go later true e = subst (Contains (first ∷ rest)) (it_is first e) (Contains-head first rest)
      go later false e =
          Contains-rest first rest (column_of relation column)
          (later (sym (ap (λ b. b || list_any (λ it. (it.relation == relation) && (it.column == column)) rest) e) ∙ any))

  found : (columns : List Column) → Contains columns (column_of relation column)
      → list_any (λ it. (it.relation == relation) && (it.column == column)) columns ≡ true
  found [] inside = absurd (Contains-nil (column_of relation column) inside)
  found (first ∷ rest) inside = elim (Contains-cases first rest (column_of relation column) inside) [
    | inl is ↦ or_left (is_it first) (list_any (λ it. (it.relation == relation) && (it.column == column)) rest) (is_told first is)
    | inr later ↦ or_right (is_it first) (list_any (λ it. (it.relation == relation) && (it.column == column)) rest) (found rest later)
  ]

  pub none_among : (columns : List Column) → list_any (λ it. (it.relation == relation) && (it.column == column)) columns ≡ false
      → ¬ (Contains columns (column_of relation column))
  none_among columns none inside = false≢true (sym none ∙ found columns inside)

-- ---- views

pub row_text : (m : Term → Value) (head : List Term) → ((term : Term) → Contains head term → (text : List ℕ) × (m term ≡ Text text))
    → (row : Row) × (map m head ≡ map Text row)
row_text m [] each = ([], refl)
row_text m (first ∷ rest) each =
    let own = each first (Contains-head first rest) in
    let others = row_text m rest (λ term inside. each term (Contains-rest first rest term inside)) in
    (own.0 ∷ others.0, λ i. own.1 i ∷ others.1 i)

module _ (facts : List (Fact Term)) (columns : List Column) (cover : CoverNodes facts columns) where
  value_text : (m : Term → Value) (atom : Fact Term) → Contains (database_of facts) (image m atom) → (term : Term) → IsFreeIn columns term atom
      → (text : List ℕ) × (m term ≡ Text text)
  value_text m atom there term (column, own, at, free) =
      let from = Contains-map_from (image value_of) facts (image m atom) there in
      let rows : map value_of from.0.terms ≡ map m atom.terms = ap (λ (fact : Fact Value). fact.terms) from.2 in
      let relation : from.0.relation ≡ atom.relation = ap (λ (fact : Fact Value). fact.relation) from.2 in
      let back = map_at-from value_of from.0.terms column (m own) (ap (λ those. slice_get those column) rows ∙ map_at m atom.terms column own at) in
      elim (told back.0) [
        | inl (text, is) ↦ (text, ap m (sym free.0) ∙ sym back.2 ∙ ap value_of is ∙ value_Const text)
        | inr (node, is, apart) ↦
            absurd (free.1 (subst (λ n. Contains columns (column_of n column)) relation (cover from.0 from.1 column (back.0, back.1, apart))))
      ]

  free_view : (query : ConjunctiveQuery) → IsFreeView columns query → HaveTextsOnly (IsAnswer query (database_of facts))
  free_view query free values (m, keeps, sends, is) =
      let row = row_text m query.head (λ term inside. elim (free term inside) [
        | inl fixed ↦ (fixed.0, ap m fixed.1 ∙ keeps fixed.0)
        | inr standing ↦ value_text m standing.0 (sends standing.0 standing.1) term standing.2
      ]) in
      (row.0, is ∙ row.1)

  -- rows of views in which each term of the head stands in a column without nodes are rows of texts
  pub free_views : (views : List ConjunctiveQuery) → AreFree columns views → AreTextViews views (database_of facts)
  free_views views free view inside = free_view view (free view inside)
