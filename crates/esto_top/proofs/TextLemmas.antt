-- Rows of values that stand in a list: they are rows of texts, or there is a first column with an unnamed value.
use Rattle.std.proofs.Common.{◌≡◌, ◌↔◌, ◌⊎◌, inl, inr, ℕ, zero, suc, ◌<◌, ◌≤◌, List, [], ◌∷◌, length, map, Some, None, Option, slice_get}
use Rattle.std.proofs.Common.{Contains, refl, sym, ap, ◌∙◌, subst, arith}
use Rattle.std.specs.Cmp.Lexicographic.{slice_cmp}
use Rattle.std.specs.Ordering.{nat_cmp}
use Rattle.std.proofs.lemmas.Bool.{cases_eq, cases_lt}
use Rattle.std.proofs.lemmas.Option.{none-some, same_Some, slice_get_within}
use Rattle.esto_data.specs.Answer.{lists_texts}
use Rattle.esto_fill.specs.Texts.{AreTextViews, AreTextsOf, HasNodeIn, HaveTextsOnly, IsFirstNodeColumn, IsFirstNodeView}
use Rattle.esto_fill.proofs.OrderLemmas.{texts_exact, texts_total}
use Rattle.esto_status.specs.declared.status.Status.{Status}
use Rattle.esto_status.specs.declared.status.Status.TheVariants.{NodeInRow}
use Rattle.esto_semantics.specs.Facts.{Database}
use Rattle.esto_semantics.specs.Queries.{ConjunctiveQuery, IsAnswer, IsQuery}
use Rattle.esto_semantics.specs.Unions.{IsUnionAnswer}
use Rattle.esto_semantics.specs.declared.fact.Value.{Value}
use Rattle.esto_semantics.specs.declared.fact.Value.TheVariants.{Text, Node}
use Rattle.esto_semantics.proofs.ValueLemmas.{Text-same}
use Rattle.esto_stores.specs.Rows.{Row}
use Rattle.esto_term.specs.declared.term.Term.{Term}
use Rattle.esto_term.specs.declared.term.Term.TheVariants.{Const}
use Rattle.esto_term.proofs.ChoiceLemmas.{Decided, decided_in, in_order, least_below}
use Rattle.esto_term.proofs.ListLemmas.{Contains-nil, Contains-head, Contains-rest, Contains-cases, Contains-map, Contains-map_from, place-from_Contains}
use Rattle.esto_term.proofs.ListLemmas.{thing_at}
use Rattle.esto_docs.specs.Rows.{text_in}
use Rattle.esto_docs.proofs.RowLemmas.{text_constant}
use Rattle.esto_top.specs.Ends.{Ends}
use Rattle.esto_top.proofs.AnswerLemmas.{answers_listed}
use Rattle.esto_top.proofs.CourseLemmas.{judges_accepts, judges_refuses}
use Rattle.esto_term.proofs.DecisionLemmas.{same_list}
use Rattle.esto_top.proofs.ListedLemmas.{Listed, each_listed}

-- ---- values

pub decided_value : (value other : Value) → Decided (value ≡ other)
decided_value (Text text) (Text other) = elim (same_list cases_eq text other) [
  | inl is ↦ inl (ap Text is)
  | inr apart ↦ inr (λ is. apart (Text-same text other is))
]
decided_value (Text text) (Node other) = inr (λ is. absurd (cc))
decided_value (Node node) (Text other) = inr (λ is. absurd (cc))
decided_value (Node node) (Node other) = elim (cases_eq node other) [
  | inl is ↦ inl (ap Node is)
  | inr apart ↦ inr (λ is. apart (same node other is))
]
  where
    same : (node other : ℕ) → Node node ≡ Node other → node ≡ other
    same node other is = cc

-- the text of a value that has one
abbrev text_or_none : Value → List ℕ
text_or_none (Text text) = text
text_or_none (Node node) = []

node_at : (values : List Value) (place : ℕ) → Decided ((node : ℕ) × (slice_get values place ≡ Some (Node node)))
node_at values place = by (slice_get values place)
  where
    by : (found : Option Value) → Decided ((node : ℕ) × (found ≡ Some (Node node)))
    by None = inr (λ (node, is). none-some (Node node) is)
    by (Some (Text text)) = inr (λ (node, is). let wrong : Text text ≡ Node node = same_Some (Text text) (Node node) is in cc)
    by (Some (Node node)) = inl (node, refl)

decided_node : (values : List Value) (column : ℕ) → Decided (HasNodeIn column values)
decided_node values zero = inr (λ (place, node, is, at). absurd (omega (arith, is)))
decided_node values (suc place) = elim (node_at values place) [
  | inl (node, at) ↦ inl (place, node, refl, at)
  | inr none ↦ inr (λ (other, node, is, at). none (node, ap (slice_get values) (omega (arith, is)) ∙ at))
]

-- a row holds a node in some column, or is a row of texts
node_or_texts : (values : List Value) → ((column : ℕ) × HasNodeIn column values) ⊎ (values ≡ map Text (map text_or_none values))
node_or_texts [] = inr refl
node_or_texts (Node node ∷ rest) = inl (1, (0, node, refl, refl))
node_or_texts (Text text ∷ rest) = elim (node_or_texts rest) [
  | inl (column, (place, node, is, at)) ↦ inl (suc column, (suc place, node, ap suc is, at))
  | inr texts ↦ inr (ap (λ them. Text text ∷ them) texts)
]

-- ---- rows of values that stand in a list

abbrev row_of : List Value → Row
row_of values = map text_or_none values

module _ (Rows : List Value → Type 0) (listed : Listed Rows) where
  abbrev HasNode : ℕ → Type 0
  HasNode column = (values : List Value) × Contains listed.0 values × HasNodeIn column values

  -- all rows are of texts, or there is a first column with a node
  pub texts_or_node : HaveTextsOnly Rows ⊎ ((column : ℕ) × IsFirstNodeColumn Rows column)
  texts_or_node = by (all listed.0)
    where
      all : (rows : List (List Value)) → ((values : List Value) → Contains rows values → values ≡ map Text (map text_or_none values))
          ⊎ ((values : List Value) × Contains rows values × ((column : ℕ) × HasNodeIn column values))
      all [] = inl (λ values none. absurd (Contains-nil values none))
      all (first ∷ rest) = elim (node_or_texts first) [
        | inl found ↦ inr (first, Contains-head first rest, found)
        | inr texts ↦ elim (all rest) [
          | inl others ↦ inl (λ values inside. elim (Contains-cases first rest values inside) [
            | inl is ↦ subst (λ it. it ≡ map Text (map text_or_none it)) is texts
            | inr later ↦ others values later
          ])
          | inr (values, inside, found) ↦ inr (values, Contains-rest first rest values inside, found)
        ]
      ]

      by : ((values : List Value) → Contains listed.0 values → values ≡ map Text (map text_or_none values))
          ⊎ ((values : List Value) × Contains listed.0 values × ((column : ℕ) × HasNodeIn column values))
          → HaveTextsOnly Rows ⊎ ((column : ℕ) × IsFirstNodeColumn Rows column)
      by (inl texts) = inl (λ values has. (map text_or_none values, texts values ((listed.1 values).1 has)))
      by (inr (values, inside, (column, node))) =
          elim (least_below HasNode (suc column)
          (λ k below. decided_in (λ (them : List Value). HasNodeIn k them) (λ them. decided_node them k) listed.0)) [
            | inl (least, below, (own, there, its), none) ↦ inr (
              least,
              record {
                values = own;
                there = (listed.1 own).0 there;
                node = its;
                least = λ other lesser is has. elim (cases_lt lesser least) [
                  | inl less ↦ absurd (none lesser less (other, (listed.1 other).1 is, has))
                  | inr most ↦ omega (arith, most)
                ];
              },
            )
            | inr none ↦ absurd (none column (omega arith) (values, inside, node))
          ]

  -- rows of texts are listed in order
  pub texts_listed : HaveTextsOnly Rows → (rows : List Row) × AreTextsOf Rows rows
  texts_listed only =
      let texts = map (λ (values : List Value). map text_or_none values) listed.0 in
      let ordered = in_order (slice_cmp (slice_cmp nat_cmp)) texts_total texts (λ row other one two. texts_exact row other) in
      (ordered.0, record { exact = λ values. (into texts refl ordered.0 ordered.1 values, from texts refl ordered.0 ordered.1 values); rising = ordered.2 })
    where
      is_own : (values : List Value) → Rows values → values ≡ map Text (row_of values)
      is_own values has = elim (node_or_texts values) [
        | inr is ↦ is
        | inl (column, (place, node, _, at)) ↦ let (row, is) = only values has in
            absurd (no_node row place node (ap (λ them. slice_get them place) (sym is) ∙ at))
      ]
        where
          no_node : (row : Row) (place node : ℕ) → slice_get (map Text row) place ≡ Some (Node node) → ⊥
          no_node [] place node at = absurd (cc)
          no_node (cell ∷ row) zero node at = let wrong : Text cell ≡ Node node = same_Some (Text cell) (Node node) at in cc
          no_node (cell ∷ row) (suc place) node at = no_node row place node at

      into : (texts : List Row) → texts ≡ map row_of listed.0 → (rows : List Row) → ((row : Row) → Contains rows row ↔ Contains texts row)
          → (values : List Value) → Rows values → (row : Row) × Contains rows row × (values ≡ map Text row)
      into texts are rows same values has = (
        row_of values,
        (same (row_of values)).1 (subst (λ them. Contains them (row_of values)) (sym are) (Contains-map row_of listed.0 values ((listed.1 values).1 has))),
        is_own values has,
      )

      from : (texts : List Row) → texts ≡ map row_of listed.0 → (rows : List Row) → ((row : Row) → Contains rows row ↔ Contains texts row)
          → (values : List Value) → ((row : Row) × Contains rows row × (values ≡ map Text row)) → Rows values
      from texts are rows same values (row, inside, is) =
          let (own, there, its) = Contains-map_from row_of listed.0 row (subst (λ them. Contains them row) are ((same row).0 inside)) in
          let has = (listed.1 own).0 there in
          subst Rows (is_own own has ∙ ap (map Text) its ∙ sym is) has

  pub lists_texts_ends : {lack : Type 0} → Ends lack (lists_texts Rows)
  lists_texts_ends = elim texts_or_node [
    | inl only ↦ let rows = texts_listed only in judges_accepts (AreTextsOf Rows) Refuses rows.0 rows.1
    | inr (column, is) ↦ judges_refuses (AreTextsOf Rows) Refuses (NodeInRow column) (record { cause = tt }) (column, is, refl)
  ]
    where
      Refuses : Status → Type 0
      Refuses refusal = (column : ℕ) × IsFirstNodeColumn Rows column × (refusal ≡ NodeInRow column)

-- ---- answers over a database

abbrev value_base : Term → Value
value_base term = Text (text_in [] term)

pub database_answers : (query : ConjunctiveQuery) → IsQuery query → (database : Database) → Listed (IsAnswer query database)
database_answers query is database =
    answers_listed Text value_base base_keeps decided_value query is.flat_body is.safe database
  where
    base_keeps : (text : List ℕ) → value_base (Const text) ≡ Text text
    base_keeps text = ap Text (text_constant [] text)

pub union_listed : (queries : List ConjunctiveQuery) → ((query : ConjunctiveQuery) → Contains queries query → IsQuery query) → (database : Database)
    → Listed (IsUnionAnswer queries database)
union_listed queries each database =
    each_listed (λ query row. IsAnswer query database row) queries (λ query inside. database_answers query (each query inside) database)

-- ---- the rows of all views

pub views_judged : (views : List ConjunctiveQuery) → ((number : ℕ) (view : ConjunctiveQuery) → slice_get views number ≡ Some view → IsQuery view)
    → (database : Database) → AreTextViews views database ⊎ ((column : ℕ) × IsFirstNodeView views database column)
views_judged views are database = by (below (length views) (omega arith))
  where
    AreTexts : ℕ → Type 0
    AreTexts count = (earlier : ℕ) (other : ConjunctiveQuery) → earlier < count → slice_get views earlier ≡ Some other → HaveTextsOnly (IsAnswer other database)

    below : (count : ℕ) → count ≤ length views → AreTexts count ⊎ ((column : ℕ) × IsFirstNodeView views database column)
    below zero within = inl (λ earlier other less at. absurd (omega (arith, less)))
    below (suc count) within = one (below count (omega (arith, within))) (thing_at views count (omega (arith, within)))
      where
        one : AreTexts count ⊎ ((column : ℕ) × IsFirstNodeView views database column)
            → (view : ConjunctiveQuery) × (slice_get views count ≡ Some view)
            → AreTexts (suc count) ⊎ ((column : ℕ) × IsFirstNodeView views database column)
        one (inr found) at = inr found
        one (inl so_far) (view, at) = elim (texts_or_node (IsAnswer view database) (database_answers view (are count view at) database)) [
          | inl only ↦ inl (λ earlier other less there. elim (cases_lt earlier count) [
            | inl early ↦ so_far earlier other early there
            | inr late ↦
                let last : earlier ≡ count = omega (arith, less, late) in
                subst (λ it. HaveTextsOnly (IsAnswer it database)) (same_Some view other (sym at ∙ ap (slice_get views) (sym last) ∙ there)) only
          ])
          | inr (column, is) ↦ inr (column, record { number = count; view = view; there = at; first = is; before = so_far })
        ]

    by : AreTexts (length views) ⊎ ((column : ℕ) × IsFirstNodeView views database column)
        → AreTextViews views database ⊎ ((column : ℕ) × IsFirstNodeView views database column)
    by (inr found) = inr found
    by (inl all) = inl (λ view inside.
        let at = place-from_Contains views view inside in all at.0 view (slice_get_within views at.0 view at.1) at.1)
