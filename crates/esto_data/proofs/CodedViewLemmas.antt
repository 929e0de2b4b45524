-- Views over rows of codes: those whose heads can hold no node, and rows of fragments that are those of their views.
use Rattle.std.proofs.Common.{◌≡◌, ◌<◌, ◌≤◌, inl, inr, ℕ, zero, suc, List, [], ◌∷◌, ◌++◌, length, map, Some, slice_get, Contains, refl, sym, ap, ◌∙◌}
use Rattle.std.proofs.Common.{subst, arith}
use Rattle.std.specs.Prelude.{Option, None, Ok}
use Rattle.std.proofs.lemmas.Bool.{cases_order}
use Rattle.std.proofs.lemmas.Option.{get_or_from_slice_get, same_Some, slice_get_within}
use Rattle.esto_coded.specs.Coded.{Coded, IsCodeOf, StandFor, rows_in}
use Rattle.esto_columns.specs.CodedRows.{CodedRows}
use Rattle.esto_columns.specs.Interned.{AreCodedRows, Grows}
use Rattle.esto_columns.proofs.CodingLemmas.{rows_grow}
use Rattle.esto_ports.specs.declared.file_fault.FileFault.{FileFault}
use Rattle.esto_query.specs.Making.{query_of}
use Rattle.esto_semantics.specs.Facts.{Database, image}
use Rattle.esto_semantics.specs.Queries.{ConjunctiveQuery, IsAnswer}
use Rattle.esto_semantics.specs.Views.{IsViewRow}
use Rattle.esto_semantics.specs.declared.fact.Fact.{Fact}
use Rattle.esto_semantics.specs.declared.fact.Value.{Value}
use Rattle.esto_semantics.specs.declared.fact.Value.TheVariants.{Text}
use Rattle.esto_steps.specs.Rows.{IsRowOf, held_by}
use Rattle.esto_stores.specs.Rows.{Row}
use Rattle.esto_term.proofs.ListLemmas.{Contains-map_from, Contains-nil, HoldsBelow, holds_all, map_at, map_at-from, thing_at}
use Rattle.esto_term.proofs.ZipLemmas.{zip_append, zip_at, zip_both, zip_length, zip_weaker}
use Rattle.esto_term.specs.declared.term.Term.{Term}
use Rattle.esto_views.specs.Fragments.{views_of}
use Rattle.esto_views.specs.declared.fragments.FragmentDef.{FragmentDef}
use Rattle.esto_data.specs.CodedParts.{IsCodedFreeIn, IsCodedFreeView}
use Rattle.esto_data.specs.Coding.{AreCodedLists, CodesFile}
use Rattle.esto_data.specs.Disagreeing.{HoldsItsView}
use Rattle.esto_fill.specs.Databases.{database_of, value_of}
use Rattle.esto_fill.specs.Differences.{HoldViewRows}
use Rattle.esto_fill.specs.Texts.{AreExactly, HaveTextsOnly}
use Rattle.esto_fill.proofs.NodeLemmas.{row_text}
use Rattle.esto_fill.proofs.ValueLemmas.{value_Const}

-- ---- heads that hold no node

module _ (coded : Coded) (facts : List (Fact Term)) (stand : StandFor coded facts) where
  value_text : (m : Term → Value) (atom : Fact Term) → Contains (database_of facts) (image m atom) → (term : Term) → IsCodedFreeIn coded term atom
      → (text : List ℕ) × (m term ≡ Text text)
  value_text m atom there term (column, at, free) =
      let from = Contains-map_from (image value_of) facts (image m atom) there in
      let rows : map value_of from.0.terms ≡ map m atom.terms = ap (λ (fact : Fact Value). fact.terms) from.2 in
      let relation : from.0.relation ≡ atom.relation = ap (λ (fact : Fact Value). fact.relation) from.2 in
      let back = map_at-from value_of from.0.terms column (m term) (ap (λ those. slice_get those column) rows ∙ map_at m atom.terms column term at) in
      let own = stand.has from.0 from.1 in
      let code = zip_at (IsCodeOf coded.texts) from.0.terms own.0 own.1 column back.0 back.1 in
      elim code.2 [
        | inl (text, constant, at_text) ↦ (text, sym back.2 ∙ ap value_of constant ∙ value_Const text)
        | inr (node, plain, is) ↦
            absurd (free own.0 (subst (λ n. Contains (rows_in coded.relations n) own.0) relation own.2) (code.0, code.1, omega (arith, is)))
      ]

  -- a view in which each term of the head stands in a column without nodes has rows of texts
  pub free_view : (query : ConjunctiveQuery) → IsCodedFreeView coded query → HaveTextsOnly (IsAnswer query (database_of facts))
  free_view query free values (m, keeps, sends, is) =
      let row = row_text m query.head (λ term inside. elim (free term inside) [
        | inl fixed ↦ (fixed.0, ap m fixed.1 ∙ keeps fixed.0)
        | inr standing ↦ value_text m standing.0 (sends standing.0 standing.1) term standing.2
      ]) in
      (row.0, is ∙ row.1)

-- ---- lists of rows of codes

-- they stay those of the rows of texts where texts come after the old ones, and so they do with one list more
pub lists_more : (old new : List (List ℕ)) (coded : List CodedRows) (own : CodedRows) (lists : List (List Row)) (rows : List Row) → Grows old new
    → AreCodedRows new own.rows rows → AreCodedLists old coded lists → AreCodedLists new (coded ++ own ∷ []) (lists ++ rows ∷ [])
lists_more old new coded own lists rows grown last before =
    zip_append (λ (it : CodedRows) (those : List Row). AreCodedRows new it.rows those) coded (own ∷ []) lists (rows ∷ [])
    (zip_weaker (λ (it : CodedRows) (those : List Row). AreCodedRows old it.rows those) (λ (it : CodedRows) (those : List Row). AreCodedRows new it.rows those)
    coded lists (λ it those inside are. rows_grow old new it.rows those grown are) before)
    (last, tt)

-- the rows of a file without a fault are put
pub file_added : (rows : List Row) (fault : Option FileFault) (old new : List (List ℕ)) (coded next : List CodedRows) (own : CodedRows) → fault ≡ None
    → Grows old new → AreCodedRows new own.rows rows → next ≡ coded ++ own ∷ [] → CodesFile (Contains rows) fault old new coded next (Ok tt)
file_added rows fault old new coded next own clear grown are is = (
  clear,
  (
    rows,
    λ row. ((λ inside. inside), (λ inside. inside)),
    λ lists before. subst (λ (those : List CodedRows). AreCodedLists new those (lists ++ rows ∷ [])) (sym is)
        (lists_more old new coded own lists rows grown are before),
  ),
)

-- they are as many
pub lists_long : (texts : List (List ℕ)) (coded : List CodedRows) (lists : List (List Row)) → AreCodedLists texts coded lists → length coded ≡ length lists
lists_long texts coded lists are = zip_length (λ (it : CodedRows) (those : List Row). AreCodedRows texts it.rows those) coded lists are

-- and so they do with none more
pub lists_grow : (old new : List (List ℕ)) (coded : List CodedRows) (lists : List (List Row)) → Grows old new → AreCodedLists old coded lists
    → AreCodedLists new coded lists
lists_grow old new coded lists grown are =
    zip_weaker (λ (it : CodedRows) (those : List Row). AreCodedRows old it.rows those) (λ (it : CodedRows) (those : List Row). AreCodedRows new it.rows those)
    coded lists (λ it those inside are. rows_grow old new it.rows those grown are) are

-- the list of a number
pub list_at : (old new : List (List ℕ)) (coded : List CodedRows) (lists : List (List Row)) → Grows old new → AreCodedLists old coded lists
    → (number : ℕ) (own : CodedRows) (rows : List Row) → slice_get coded number ≡ Some own → slice_get lists number ≡ Some rows
    → AreCodedRows new own.rows rows
list_at old new coded lists grown are number own rows at there =
    rows_grow old new own.rows rows grown
    (zip_both (λ (it : CodedRows) (those : List Row). AreCodedRows old it.rows those) coded lists are number own rows at there)

-- ---- rows of fragments

-- a number past the lists has no rows
past_lists : (lists : List (List Row)) (number : ℕ) → length lists ≤ number → held_by lists number ≡ []
past_lists [] number past = refl
past_lists (first ∷ lists) zero past = absurd (omega (arith, past))
past_lists (first ∷ lists) (suc number) past = past_lists lists number (omega (arith, past))

held_within : (lists : List (List Row)) (number : ℕ) (row : Row) → Contains (held_by lists number) row → number < length lists
held_within lists number row inside = elim (cases_order number (length lists)) [
  | inl same ↦ absurd (Contains-nil row (subst (λ those. Contains those row) (past_lists lists number (omega (arith, same))) inside))
  | inr (inl less) ↦ less
  | inr (inr more) ↦ absurd (Contains-nil row (subst (λ those. Contains those row) (past_lists lists number (omega (arith, more))) inside))
]

module _ (fragments : List FragmentDef) (lists : List (List Row)) (database : Database) where
  -- the lists of the first few fragments are those of their views
  abbrev pub HoldBelow : ℕ → Type 0
  HoldBelow count = HoldsBelow (λ number (fragment : FragmentDef). (list : List Row) → slice_get lists number ≡ Some list
      → AreExactly (IsAnswer (query_of fragment.view) database) list) fragments count

  -- so are those of all
  module _ (many : length lists ≡ length fragments) (count : ℕ) (past : length fragments ≤ count) (below : HoldBelow count) (fact : Fact Value) where
    exact : (fragment : FragmentDef) → slice_get fragments fact.relation ≡ Some fragment → (list : List Row) → slice_get lists fact.relation ≡ Some list
        → AreExactly (IsAnswer (query_of fragment.view) database) list
    exact fragment at list there =
        holds_all (λ number (it : FragmentDef). (its : List Row) → slice_get lists number ≡ Some its
        → AreExactly (IsAnswer (query_of it.view) database) its) fragments count past below fact.relation fragment at list there

    forward : IsViewRow (views_of fragments) database fact → (row : Row) × Contains (held_by lists fact.relation) row × (fact.terms ≡ map Text row)
    forward (view, at, answer) =
        let from = map_at-from (λ (its : FragmentDef). query_of its.view) fragments fact.relation view at in
        let within = slice_get_within fragments fact.relation from.0 from.1 in
        let list = thing_at lists fact.relation (omega (arith, within, many)) in
        let found = (exact from.0 from.1 list.0 list.1 fact.terms).0 (subst (λ it. IsAnswer it database fact.terms) (sym from.2) answer) in
        (found.0, subst (λ those. Contains those found.0) (sym (get_or_from_slice_get lists fact.relation list.0 [] list.1)) found.1, found.2)

    backward : (row : Row) × Contains (held_by lists fact.relation) row × (fact.terms ≡ map Text row) → IsViewRow (views_of fragments) database fact
    backward (row, inside, is) =
        let within = held_within lists fact.relation row inside in
        let list = thing_at lists fact.relation within in
        let fragment = thing_at fragments fact.relation (omega (arith, within, many)) in (
          query_of fragment.0.view,
          map_at (λ (its : FragmentDef). query_of its.view) fragments fact.relation fragment.0 fragment.1,
          (exact fragment.0 fragment.1 list.0 list.1 fact.terms).1
              (row, subst (λ those. Contains those row) (get_or_from_slice_get lists fact.relation list.0 [] list.1) inside, is),
        )

  pub hold_all : length lists ≡ length fragments → (count : ℕ) → length fragments ≤ count → HoldBelow count
      → HoldViewRows (views_of fragments) database (IsRowOf (held_by lists))
  hold_all many count past below fact = (forward many count past below fact, backward many count past below fact)

  -- a fragment holds the rows of its view where its list does
  module _ (number : ℕ) (fragment : FragmentDef) (list : List Row) (at : slice_get fragments number ≡ Some fragment)
      (there : slice_get lists number ≡ Some list) where
    view_at : slice_get (views_of fragments) number ≡ Some (query_of fragment.view)
    view_at = map_at (λ (its : FragmentDef). query_of its.view) fragments number fragment at

    read : held_by lists number ≡ list
    read = get_or_from_slice_get lists number list [] there

    pub holds_from : AreExactly (IsAnswer (query_of fragment.view) database) list → HoldsItsView (views_of fragments) database lists number
    holds_from exact view is =
        subst (λ it. AreExactly (IsAnswer it database) (held_by lists number)) (same_Some (query_of fragment.view) view (sym view_at ∙ is))
        (subst (AreExactly (IsAnswer (query_of fragment.view) database)) (sym read) exact)

    pub exact_from : HoldsItsView (views_of fragments) database lists number → AreExactly (IsAnswer (query_of fragment.view) database) list
    exact_from holds = subst (AreExactly (IsAnswer (query_of fragment.view) database)) read (holds (query_of fragment.view) view_at)

  -- so does each of the first few
  pub each_below : length lists ≡ length fragments → (count : ℕ) → HoldBelow count → (number : ℕ) → number < count
      → HoldsItsView (views_of fragments) database lists number
  each_below many count below number less view is =
      let from = map_at-from (λ (its : FragmentDef). query_of its.view) fragments number view is in
      let within = slice_get_within fragments number from.0 from.1 in
      let list = thing_at lists number (omega (arith, within, many)) in
      holds_from number from.0 list.0 from.1 list.1 (below number from.0 less from.1 list.0 list.1) view is
