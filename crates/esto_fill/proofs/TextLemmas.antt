-- Rows of terms as rows of texts.
use Rattle.std.proofs.Common.{◌≡◌, ◌↔◌, ◌⊎◌, inl, inr, ℕ, suc, ◌≤◌, ◌<◌, ◌+◌, min, List, [], ◌∷◌, ◌++◌, length, take, map, get_or, Option, Some, None}
use Rattle.std.proofs.Common.{slice_get, Contains, refl, sym, ap, ◌∙◌, subst, arith}
use Rattle.std.specs.Prelude.{Result, Ok, Err}
use Rattle.std.specs.Cmp.Lexicographic.{slice_cmp}
use Rattle.std.specs.Ordering.{nat_cmp}
use Rattle.std.specs.declared.cmp.Ordering.TheVariants.{Less}
use Rattle.std.proofs.lemmas.List.{take_all}
use Rattle.std.proofs.lemmas.List.Elements.{Contains-push_cases, Contains-append_left, Contains-append_right}
use Rattle.std.proofs.lemmas.Bool.{cases_order}
use Rattle.std.proofs.lemmas.Option.{slice_get_read, slice_get_within}
use Rattle.esto_query.specs.Rows.{IsAscending, row_cmp}
use Rattle.esto_rows.specs.Lent.{AreRising}
use Rattle.esto_query.specs.Making.{query_of}
use Rattle.esto_semantics.specs.Facts.{Database}
use Rattle.esto_semantics.specs.Maps.{AreFlat}
use Rattle.esto_semantics.specs.declared.fact.Fact.{Fact}
use Rattle.esto_views.specs.Fragments.{views_of}
use Rattle.esto_views.specs.declared.fragments.FragmentDef.{FragmentDef}
use Rattle.esto_semantics.specs.Queries.{ConjunctiveQuery, IsAnswer, IsAnswerInto, IsQuery}
use Rattle.esto_semantics.specs.Standing.{AnswersStand, RowsStand}
use Rattle.esto_semantics.specs.declared.fact.Value.{Value}
use Rattle.esto_semantics.specs.declared.fact.Value.TheVariants.{Text, Node}
use Rattle.esto_stores.specs.Rows.{Row}
use Rattle.esto_term.specs.Kinds.{IsConstant}
use Rattle.esto_term.specs.declared.term.Term.{Term}
use Rattle.esto_term.specs.declared.term.Term.TheVariants.{Const}
use Rattle.esto_term.proofs.ChoiceLemmas.{pairs_cons, pairs_head, pairs_tail}
use Rattle.esto_term.proofs.ListLemmas.{Contains-head, Contains-one, Contains-at, Contains-map, Contains-map_from, map_at, map_at-from, map_agree, map_itself}
use Rattle.esto_term.proofs.ListLemmas.{map_then, place-from_Contains, HoldsBelow}
use Rattle.esto_term.proofs.PlaceLemmas.{take-item}
use Rattle.esto_fill.specs.Databases.{database_of, value_of}
use Rattle.esto_fill.specs.Placing.{text_of, IsImageOf, AreConstant, IsOpenAt, LeastOpen, NamesColumn, lesser}
use Rattle.esto_fill.specs.Texts.{HaveTextsOnly, AreTextsOf, IsFirstNodeColumn, AreTextViews, GivesTexts, JudgesRows, JudgesViews}
use Rattle.esto_fill.specs.declared.rows.AnswerError.{AnswerError}
use Rattle.esto_fill.specs.declared.rows.AnswerError.TheVariants.{NodeInRow, OutOfMemory}
use Rattle.esto_fill.proofs.OrderLemmas.{ordered_as_texts}
use Rattle.esto_fill.proofs.ValueLemmas.{facts_stand, told, node_open, text_constant, text_Const, map_value}

-- ---- the least place of another term than a constant

module _ (rows : List (List Term)) (row : List Term) where
  either : (P : List Term → Type 0) → ((it : List Term) → Contains rows it → P it) → ((it : List Term) → Contains (row ∷ []) it → P it)
      → (it : List Term) → Contains (rows ++ row ∷ []) it → P it
  either P one other it inside = elim (Contains-push_cases rows row it inside) [
    | inl old ↦ one it old
    | inr last ↦ other it (subst (Contains (row ∷ [])) last (Contains-head row []))
  ]

  in_rows : (it : List Term) → Contains rows it → Contains (rows ++ row ∷ []) it
  in_rows it inside = Contains-append_left rows (row ∷ []) it inside

  in_row : (it : List Term) → Contains (row ∷ []) it → Contains (rows ++ row ∷ []) it
  in_row it inside = Contains-append_right rows (row ∷ []) it inside

-- rows of constants have none
none_open : (rows : List (List Term)) → AreConstant rows → (row : List Term) (place : ℕ) → Contains rows row → IsOpenAt row place → ⊥
none_open rows constant row place inside (term, at, open_) = open_ (constant row term inside (Contains-at row place term at))

-- with one row more it is the lesser of the two
pub open_more : (rows : List (List Term)) (row : List Term) (place other : Option ℕ) → LeastOpen rows place → LeastOpen (row ∷ []) other
    → LeastOpen (rows ++ row ∷ []) (lesser place other)
open_more rows row None None before own = λ it term inside in_it.
    either rows row (λ it. (term : Term) → Contains it term → IsConstant term) (λ it old term in_it. before it term old in_it)
    (λ it new term in_it. own it term new in_it) it inside term in_it
open_more rows row None (Some other) before own = (
  (own.0.0, in_row rows row own.0.0 own.0.1, own.0.2),
  λ it at inside open_. either rows row (λ it. IsOpenAt it at → other ≤ at) (λ it old its. absurd (none_open rows before it at old its))
      (λ it new its. own.1 it at new its) it inside open_,
)
open_more rows row (Some place) None before own = (
  (before.0.0, in_rows rows row before.0.0 before.0.1, before.0.2),
  λ it at inside open_. either rows row (λ it. IsOpenAt it at → place ≤ at) (λ it old its. before.1 it at old its)
      (λ it new its. absurd (none_open (row ∷ []) own it at new its)) it inside open_,
)
open_more rows row (Some place) (Some other) before own = (
  least (cases_order place other),
  λ it at inside open_. either rows row (λ it. IsOpenAt it at → min place other ≤ at)
      (λ it old its. let low = before.1 it at old its in omega (arith, low))
      (λ it new its. let low = own.1 it at new its in omega (arith, low)) it inside open_,
)
  where
    Has : Type 0
    Has = (it : List Term) × Contains (rows ++ row ∷ []) it × IsOpenAt it (min place other)

    first : place ≤ other → Has
    first below =
        let same : place ≡ min place other = omega (arith, below) in
        (before.0.0, in_rows rows row before.0.0 before.0.1, subst (IsOpenAt before.0.0) same before.0.2)

    second : other ≤ place → Has
    second below =
        let same : other ≡ min place other = omega (arith, below) in
        (own.0.0, in_row rows row own.0.0 own.0.1, subst (IsOpenAt own.0.0) same own.0.2)

    least : (place ≡ other) ⊎ ((place < other) ⊎ (other < place)) → Has
    least (inl same) = first (omega (arith, same))
    least (inr (inl less)) = first (omega (arith, less))
    least (inr (inr more)) = second (omega (arith, more))

-- the first term of a row that is no constant, where a loop finds it
pub first_open : (row : List Term) (place : ℕ) (term : Term) → place < length row → term ≡ get_or row place term → (IsConstant term → ⊥)
    → HoldsBelow (λ _ it. IsConstant it) row place → LeastOpen (row ∷ []) (Some place)
first_open row place term within read other_kind before = (
  (row, Contains-head row [], (term, slice_get_read row (length row) place term refl within read, other_kind)),
  λ other at inside (own, there, apart). elim (cases_order at place) [
    | inl same ↦ omega arith
    | inr (inl less) ↦
        let one = Contains-one row other inside in
        absurd (apart (before at own less (subst (λ (those : List Term). slice_get those at ≡ Some own) (sym one) there)))
    | inr (inr more) ↦ omega arith
  ],
)

pub open_next : (rows : List (List Term)) (count : ℕ) (row : List Term) (place other new : Option ℕ) → count < length rows → row ≡ get_or rows count row
    → LeastOpen (take count rows) place → LeastOpen (row ∷ []) other → new ≡ lesser place other → LeastOpen (take (count + 1) rows) new
open_next rows count row place other new within read before own is =
    subst (λ those. LeastOpen those new) (sym (take-item rows count row within read))
    (subst (LeastOpen (take count rows ++ row ∷ [])) (sym is) (open_more (take count rows) row place other before own))

pub open_all : (rows : List (List Term)) (count : ℕ) (place : Option ℕ) → length rows ≤ count → LeastOpen (take count rows) place → LeastOpen rows place
open_all rows count place past = subst (λ those. LeastOpen those place) (take_all count rows past)

-- ---- rows of constants

constant_row : (row : List Term) → ((term : Term) → Contains row term → IsConstant term) → row ≡ map Const (map text_of row)
constant_row row constant = sym (
    map_then text_of Const row ∙ map_agree (λ term. Const (text_of term)) (λ term. term) row (λ term inside. own term (constant term inside)) ∙ map_itself row
    )
  where
    own : (term : Term) → IsConstant term → Const (text_of term) ≡ term
    own term (text, is) = ap (λ it. Const (text_of it)) is ∙ ap Const (text_Const text) ∙ sym is

-- a row of terms whose values are texts is one of constants
pub row_of_texts : (row : List Term) (cells : Row) → map value_of row ≡ map Text cells → row ≡ map Const cells
row_of_texts [] [] same = refl
row_of_texts [] (cell ∷ cells) same = absurd (cc)
row_of_texts (term ∷ row) [] same = absurd (cc)
row_of_texts (term ∷ row) (cell ∷ cells) same =
    let first : value_of term ≡ Text cell = cc in
    let rest : map value_of row ≡ map Text cells = cc in
    let head = text_constant term cell first in
    let tail = row_of_texts row cells rest in
    λ i. head i ∷ tail i

module _ (rows : List (List Term)) (constant : AreConstant rows) where
  as_constants : (row : List Term) → Contains rows row → row ≡ map Const (map text_of row)
  as_constants row inside = constant_row row (λ term in_row. constant row term inside in_row)

  values_texts : (row : List Term) → Contains rows row → map value_of row ≡ map Text (map text_of row)
  values_texts row inside = ap (map value_of) (as_constants row inside) ∙ map_value (map text_of row)

  exact : (values : List Value) → IsImageOf rows values ↔ ((cells : Row) × Contains (map (map text_of) rows) cells × (values ≡ map Text cells))
  exact values = (
    (λ (row, inside, is). (map text_of row, Contains-map (map text_of) rows row inside, is ∙ values_texts row inside)),
    (λ (cells, inside, is).
        let from = Contains-map_from (map text_of) rows cells inside in
        (from.0, from.1, is ∙ ap (map Text) (sym from.2) ∙ sym (values_texts from.0 from.1))),
  )

  all_constants : map (map Const) (map (map text_of) rows) ≡ rows
  all_constants = map_then (map text_of) (map Const) rows
      ∙ map_agree (λ row. map Const (map text_of row)) (λ row. row) rows (λ row inside. sym (as_constants row inside)) ∙ map_itself rows

-- rows of constants that ascend are texts that rise
risen : (texts : List Row) → IsAscending (map (map Const) texts) → AreRising texts
risen [] ascends = λ i j d l m. absurd (omega (arith, m))
risen (cells ∷ texts) ascends =
    pairs_cons (λ row other. slice_cmp (slice_cmp nat_cmp) row other ≡ Less) cells texts
    (λ other inside. sym (ordered_as_texts cells other)
    ∙ pairs_head (λ row it. row_cmp row it ≡ Less) (map Const cells) (map (map Const) texts) ascends (map Const other)
    (Contains-map (map Const) texts other inside))
    (risen texts (pairs_tail (λ row it. row_cmp row it ≡ Less) (map Const cells) (map (map Const) texts) ascends))

pub listed : (rows : List (List Term)) → IsAscending rows → AreConstant rows → AreTextsOf (IsImageOf rows) (map (map text_of) rows)
listed rows ascends constant = record {
  exact = exact rows constant;
  rising = risen (map (map text_of) rows) (subst IsAscending (sym (all_constants rows constant)) ascends);
}

pub texts_only : (rows : List (List Term)) → AreConstant rows → HaveTextsOnly (IsImageOf rows)
texts_only rows constant values image = let found = (exact rows constant values).0 image in (found.0, found.2)

-- ---- a node

pub first_node : (rows : List (List Term)) (place column : ℕ) → column ≡ place + 1 → LeastOpen rows (Some place) → IsFirstNodeColumn (IsImageOf rows) column
first_node rows place column counted ((row, inside, (term, at, open_)), least) = record {
  values = map value_of row;
  there = (row, inside, refl);
  node = elim (told term) [
    | inl constant ↦ absurd (open_ constant)
    | inr (node, is, apart) ↦ (place, node, omega (arith, counted), map_at value_of row place term at ∙ ap Some is)
  ];
  least = λ other lesser (its, in_rows, is) (where_, node, count, here). at_least other lesser its where_ node in_rows is count here;
}
  where
    at_least : (other : List Value) (lesser : ℕ) (its : List Term) (where_ node : ℕ) → Contains rows its → other ≡ map value_of its → lesser ≡ suc where_
        → slice_get other where_ ≡ Some (Node node) → column ≤ lesser
    at_least other lesser its where_ node in_rows is count here =
        let from = map_at-from value_of its where_ (Node node) (sym (ap (λ those. slice_get those where_) is) ∙ here) in
        let low = least its where_ in_rows (from.0, from.1, node_open from.0 node from.2) in
        omega (arith, low, count, counted)

-- ---- the same rows

module _ (One Other : List Value → Type 0) (same : (values : List Value) → One values ↔ Other values) where
  pub column_moved : (column : ℕ) → IsFirstNodeColumn One column → IsFirstNodeColumn Other column
  column_moved column first = record {
    values = first.values;
    there = (same first.values).0 first.there;
    node = first.node;
    least = λ other lesser there node. first.least other lesser ((same other).1 there) node;
  }

  pub texts_same : (rows : List Row) → AreTextsOf One rows → AreTextsOf Other rows
  texts_same rows given = record {
    exact = λ values. ((λ there. (given.exact values).0 ((same values).1 there)), (λ found. (same values).0 ((given.exact values).1 found)));
    rising = given.rising;
  }

  pub gives_same : (result : Result (List Row) AnswerError) → GivesTexts One result → GivesTexts Other result
  gives_same (Ok rows) given = texts_same rows given
  gives_same (Err (NodeInRow column)) given = column_moved column given
  gives_same (Err OutOfMemory) given = tt

  pub judges_same : (result : Result (Unit {0}) AnswerError) → JudgesRows One result → JudgesRows Other result
  judges_same (Ok done) given = λ values there. given values ((same values).1 there)
  judges_same (Err (NodeInRow column)) given = column_moved column given
  judges_same (Err OutOfMemory) given = tt

-- the answers of a query over the database of flat facts are the rows that it has over the facts
pub answers_flat : AnswersStand → (facts : List (Fact Term)) → AreFlat facts → (query : ConjunctiveQuery) → IsQuery query
    → RowsStand value_of (IsAnswerInto Const query (Contains facts)) (IsAnswer query (database_of facts))
answers_flat stand facts flat query is_one = stand facts value_of (database_of facts) query (facts_stand facts flat) is_one

-- the images of the rows that stand for others are these
pub images_are : (rows : List (List Term)) (Rows : List Term → Type 0) (Others : List Value → Type 0) → RowsStand value_of Rows Others
    → ((row : List Term) → Contains rows row ↔ Rows row) → (values : List Value) → IsImageOf rows values ↔ Others values
images_are rows Rows Others stand same values = (
  (λ (row, inside, is). subst Others (sym is) (stand.there row ((same row).0 inside))),
  (λ other. let from = stand.back values other in (from.0, (same from.0).1 from.1, sym from.2)),
)

-- ---- what is answered

pub refused : (rows : List (List Term)) (place : ℕ) (error : AnswerError) → NamesColumn place error → LeastOpen rows (Some place)
    → GivesTexts (IsImageOf rows) (Err error)
refused rows place (NodeInRow column) counted open_ = first_node rows place column counted open_
refused rows place OutOfMemory counted open_ = tt

pub unjudged : (rows : List (List Term)) (place : ℕ) (error : AnswerError) → NamesColumn place error → LeastOpen rows (Some place)
    → JudgesRows (IsImageOf rows) (Err error)
unjudged rows place (NodeInRow column) counted open_ = first_node rows place column counted open_
unjudged rows place OutOfMemory counted open_ = tt

-- the views so far are of texts alone, and at this one a row holds a node
pub first_view : (views : List ConjunctiveQuery) (database : Database) (number : ℕ) (view : ConjunctiveQuery) (error : AnswerError)
    → slice_get views number ≡ Some view → JudgesRows (IsAnswer view database) (Err error)
    → ((earlier : ℕ) (other : ConjunctiveQuery) → earlier < number → slice_get views earlier ≡ Some other → HaveTextsOnly (IsAnswer other database))
    → JudgesViews views database (Err error)
first_view views database number view (NodeInRow column) there first before =
    record { number = number; view = view; there = there; first = first; before = before }
first_view views database number view OutOfMemory there first before = tt

-- a place that is not there is none
pub none_is : (rows : List (List Term)) (place : Option ℕ) → ((it : ℕ) → place ≡ Some it → ⊥) → LeastOpen rows place → LeastOpen rows None
none_is rows None apart open_ = open_
none_is rows (Some place) apart open_ = absurd (apart place refl)

-- ---- all views

module _ (fragments items : List FragmentDef) (database : Database) (listed_ : items ≡ fragments) where
  -- the rows of the views of the first few fragments are of texts alone
  abbrev pub AreTextsBelow : ℕ → Type 0
  AreTextsBelow count = HoldsBelow (λ _ (fragment : FragmentDef). HaveTextsOnly (IsAnswer (query_of fragment.view) database)) items count

  pub views_before : (count : ℕ) → AreTextsBelow count → (earlier : ℕ) (view : ConjunctiveQuery) → earlier < count
      → slice_get (views_of fragments) earlier ≡ Some view → HaveTextsOnly (IsAnswer view database)
  views_before count below earlier view less there =
      let from = map_at-from (λ (its : FragmentDef). query_of its.view) fragments earlier view there in
      subst (λ it. HaveTextsOnly (IsAnswer it database)) from.2 (below earlier from.0 less (ap (λ those. slice_get those earlier) listed_ ∙ from.1))

  pub all_texts : (count : ℕ) → length items ≤ count → AreTextsBelow count → AreTextViews (views_of fragments) database
  all_texts count past below view inside =
      let from = Contains-map_from (λ (its : FragmentDef). query_of its.view) fragments view inside in
      let at = place-from_Contains fragments from.0 from.1 in
      let within = slice_get_within fragments at.0 from.0 at.1 in
      let same = ap length listed_ in
      subst (λ it. HaveTextsOnly (IsAnswer it database)) from.2
      (below at.0 from.0 (omega (arith, within, same, past)) (ap (λ those. slice_get those at.0) listed_ ∙ at.1))
