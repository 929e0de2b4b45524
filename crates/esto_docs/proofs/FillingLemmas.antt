-- Rows that are filled cell by cell along a layout.
use Rattle.std.proofs.Common.{◌≡◌, ◌≢◌, ◌↔◌, ◌⊎◌, ◌∙◌, ◌≤◌, ◌+◌, ◌++◌, ◌==◌, ℕ, zero, suc, Bool, true, false, if◌then◌else◌, List, [], ◌∷◌, length, get_or}
use Rattle.std.proofs.Common.{slice_set, Some, Bor, inl, inr, refl, sym, ap, subst, arith}
use Rattle.std.specs.Prelude.{Contains}
use Rattle.std.proofs.lemmas.Bool.{cases_eq, cases_lt}
use Rattle.std.proofs.lemmas.Bool.Decides.{nat_tests}
use Rattle.std.proofs.lemmas.List.{get_or-set_same, get_or-set_other, length-set}
use Rattle.std.proofs.lemmas.Option.{same_Some}
use Rattle.std.proofs.lemmas.List.Elements.{Contains-push_cases, Contains-append_left, Contains-append_right}
use Rattle.serde_json.specs.View.{view}
use Rattle.serde_json.specs.declared.value.Value.{Value}
use Rattle.esto_term.proofs.ListLemmas.{Contains-head, Contains-nil, Contains-rest, Contains-one}
use Rattle.esto_term.specs.declared.term.Term.{Term, out-Term}
use Rattle.esto_term.specs.declared.term.Term.TheVariants.{Const, Plain, outs-Plain}
use Rattle.esto_docmodel.specs.Forests.{name, place, Node, HasKid}
use Rattle.esto_docmodel.specs.Layouts.{AreLaidOut, StandsOnce, IsLayout, first_path}
use Rattle.esto_docmodel.specs.Patterns.{Entries, done, holds, group, Takes, HoldsTerm, Matches, Mentions}
use Rattle.esto_docmodel.specs.Shapes.{More, entry_shape, entry_step, entries_of, shape}
use Rattle.esto_docmodel.specs.declared.pattern.Entry.{Entry, fold_out-Entry}
use Rattle.esto_docmodel.specs.declared.pattern.Entry.TheOpen.{Entry-F}
use Rattle.esto_docmodel.specs.declared.pattern.Entry.TheVariants as entry
use Rattle.esto_docmodel.proofs.ShapeLemmas.{entry-Value, entry-Group}
use Rattle.esto_docmodel.specs.declared.pattern.Step.{Step}
use Rattle.esto_docmodel.specs.declared.pattern.Step.TheVariants.{Name, Item, Below}
use Rattle.esto_docmodel.specs.declared.tree.Tree.{Tree}
use Rattle.esto_docs.specs.Filling.{Task, times_by_kind, times, times_in, AllMatched, AreReady, AgreeOff, Completes, Fills, CompletesSome, FillsSome, todo_step}
use Rattle.esto_docs.specs.Filling.{tasks_of, value_node, with_path, cells_of}
use Rattle.esto_docs.specs.Rows.{Row, text_in, row_map, IsRowOf, Gains}
use Rattle.esto_docs.specs.declared.filling.Todo.{Todo, fold-roll-Todo}
use Rattle.esto_docs.specs.declared.filling.Todo.TheOpen.{Todo-F}
use Rattle.esto_docs.specs.declared.filling.Todo.TheVariants as left
use Rattle.esto_docs.proofs.RowLemmas.{same_rows, same_constant, gains_append, text_column}

-- ---- the tasks of the program

pub tasks-Nothing : tasks_of left.Nothing ≡ []
tasks-Nothing = ap tasks_of (sym left.rolls-Nothing) ∙ fold-roll-Todo (List Task) todo_step Todo-F.Nothing

pub tasks-Entries : (entries : Bor (List Entry)) (value : Bor Value) (later : Bor Todo)
    → tasks_of (left.Entries entries value later) ≡ (entries_of entries.now, value_node (view value.now)) ∷ tasks_of later.now
tasks-Entries entries value later = ap tasks_of (sym (left.rolls-Entries entries value later))
    ∙ fold-roll-Todo (List Task) todo_step (Todo-F.Entries entries value later)

pub cells_count : (values : List (Bor Value)) → length (cells_of values) ≡ length values
cells_count [] = refl
cells_count (value ∷ values) = ap suc (cells_count values)

-- ---- entries, one by one

-- The first of the entries, before others.
abbrev pub before : Entries → Entries → Entries
before done rest = rest
before (holds path term others) rest = holds path term rest
before (group path inner others) rest = group path inner rest

-- There is a first entry.
abbrev pub IsSome : Entries → Type 0
IsSome done = ⊥
IsSome (holds path term rest) = Unit {0}
IsSome (group path inner rest) = Unit {0}

-- What an entry puts first before others.
PutsFirst : Entries → More → Type 0
PutsFirst rest first = (first rest ≡ before (first done) rest) × IsSome (first done)

level_first : (rest : Entries) (e : Entry-F More) → PutsFirst rest (entry_step e)
unfolding PutsFirst
level_first rest (Entry-F.Value path term) = (refl, tt)
level_first rest (Entry-F.Group path inner) = (refl, tt)

entry_first : (rest : Entries) (e : Entry) → PutsFirst rest (entry_shape e)
entry_first rest e = subst (PutsFirst rest) (sym (fold_out-Entry More entry_step e)) (level_first rest _)

pub entries_first : (e : Entry) (es : List Entry) → entries_of (e ∷ es) ≡ before (entries_of (e ∷ [])) (entries_of es)
unfolding PutsFirst
entries_first e es = (entry_first (entries_of es) e).0

pub entry_some : (e : Entry) → IsSome (entries_of (e ∷ []))
unfolding PutsFirst
entry_some e = (entry_first done e).1

pub value_end : (e : Entry) (path : List Step) (term : Term) → e ≡ entry.Value path term → with_path [] (entries_of (e ∷ [])) ≡ holds [] term done
value_end e path term is = ap (λ (x : Entry). with_path [] (entries_of (x ∷ []))) is ∙ ap (with_path []) (entry-Value path term done)

pub group_end : (e : Entry) (path : List Step) (inner : List Entry) → e ≡ entry.Group path inner
    → with_path [] (entries_of (e ∷ [])) ≡ group [] (entries_of inner) done
group_end e path inner is = ap (λ (x : Entry). with_path [] (entries_of (x ∷ []))) is ∙ ap (with_path []) (entry-Group path inner done)

-- ---- how much there is to do

-- The steps of the entries, with two for each entry and one for their end.
abbrev pub weight : Entries → ℕ
weight done = 1
weight (holds path term rest) = length path + 2 + weight rest
weight (group path inner rest) = length path + 2 + weight inner + weight rest

-- What is to do at the end of the first entry's path.
abbrev pub end_weight : Entries → ℕ
end_weight done = 0
end_weight (holds path term rest) = 1
end_weight (group path inner rest) = 1 + weight inner

abbrev pub weight_in : List Task → ℕ
weight_in [] = 0
weight_in (task ∷ rest) = weight task.0 + weight_in rest

weight_before : (x rest : Entries) → IsSome x → weight (before x rest) ≡ length (first_path x) + 1 + end_weight x + weight rest
weight_before done rest some = absurd some
weight_before (holds path term others) rest some = omega arith
weight_before (group path inner others) rest some = omega arith

pub weight_first : (e : Entry) (es : List Entry)
    → weight (entries_of (e ∷ es)) ≡ length (first_path (entries_of (e ∷ []))) + 1 + end_weight (entries_of (e ∷ [])) + weight (entries_of es)
weight_first e es = ap weight (entries_first e es) ∙ weight_before (entries_of (e ∷ [])) (entries_of es) (entry_some e)

pub value_weight : (e : Entry) (path : List Step) (term : Term) → e ≡ entry.Value path term → end_weight (entries_of (e ∷ [])) ≡ 1
value_weight e path term is = ap (λ (x : Entry). end_weight (entries_of (x ∷ []))) is ∙ ap end_weight (entry-Value path term done)

pub group_weight : (e : Entry) (path : List Step) (inner : List Entry) → e ≡ entry.Group path inner
    → end_weight (entries_of (e ∷ [])) ≡ 1 + weight (entries_of inner)
group_weight e path inner is = ap (λ (x : Entry). end_weight (entries_of (x ∷ []))) is ∙ ap end_weight (entry-Group path inner done)

-- ---- how often a column stands there

pub times_path : (column : ℕ) (path other : List Step) (x : Entries) → times column (with_path path x) ≡ times column (with_path other x)
times_path column path other done = refl
times_path column path other (holds own term rest) = refl
times_path column path other (group own inner rest) = refl

times_before : (column : ℕ) (path : List Step) (x rest : Entries) → times column (with_path path x) + times column rest ≡ times column (before x rest)
times_before column path done rest = omega arith
times_before column path (holds own term others) rest = omega arith
times_before column path (group own inner others) rest = omega arith

same_test : (n : ℕ) → (n == n) ≡ true
same_test n = grind (arith, nat_tests)

other_test : (n k : ℕ) → n ≢ k → (n == k) ≡ false
other_test n k apart = grind (arith, nat_tests)

same_times : (n : ℕ) → times_by_kind n (out-Term (Plain n)) ≡ 1
same_times n = ap (times_by_kind n) (outs-Plain n) ∙ ap (λ (b : Bool). if b then 1 else 0) (same_test n)

other_times : (n k : ℕ) → n ≢ k → times_by_kind k (out-Term (Plain n)) ≡ 0
other_times n k apart = ap (times_by_kind k) (outs-Plain n) ∙ ap (λ (b : Bool). if b then 1 else 0) (other_test n k apart)

absent : (columns : ℕ) (es : Entries) (k : ℕ) → AreLaidOut columns es → ¬ (Mentions es (Plain k)) → times k es ≡ 0
absent columns done k laid none = refl
absent columns (holds path term rest) k laid none =
    let here : times_by_kind k (out-Term term) ≡ 0 =
    ap (λ (t : Term). times_by_kind k (out-Term t)) laid.1.1 ∙ other_times laid.1.0 k (λ e. none (inl (laid.1.1 ∙ ap Plain e))) in
    omega (arith, here, absent columns rest k laid.2 (λ h. none (inr h)))
absent columns (group path inner rest) k laid none =
    omega (arith, absent columns inner k laid.2 (λ h. none (inl h)), absent columns rest k laid.3 (λ h. none (inr h)))

pub once : (columns : ℕ) (es : Entries) (k : ℕ) → AreLaidOut columns es → StandsOnce (Plain k) es → times k es ≡ 1
once columns done k laid h = absurd h
once columns (holds path term rest) k laid (inl h) =
    let here : times_by_kind k (out-Term term) ≡ 1 = ap (λ (t : Term). times_by_kind k (out-Term t)) h.0 ∙ same_times k in
    omega (arith, here, absent columns rest k laid.2 h.1)
once columns (holds path term rest) k laid (inr h) =
    let here : times_by_kind k (out-Term term) ≡ 0 =
    ap (λ (t : Term). times_by_kind k (out-Term t)) laid.1.1 ∙ other_times laid.1.0 k (λ e. h.0 (laid.1.1 ∙ ap Plain e)) in
    omega (arith, here, once columns rest k laid.2 h.1)
once columns (group path inner rest) k laid (inl h) = omega (arith, once columns inner k laid.2 h.0, absent columns rest k laid.3 h.1)
once columns (group path inner rest) k laid (inr h) = omega (arith, absent columns inner k laid.2 h.0, once columns rest k laid.3 h.1)

-- ---- what is ready

laid_first : (columns : ℕ) (x rest : Entries) → AreLaidOut columns (before x rest) → AreLaidOut columns (with_path (first_path x) x) × AreLaidOut columns rest
laid_first columns done rest laid = (tt, laid)
laid_first columns (holds path term others) rest laid = ((laid.0, laid.1, tt), laid.2)
laid_first columns (group path inner others) rest laid = ((laid.0, laid.1, laid.2, tt), laid.3)

later_plain : (step : Step) (path : List Step) → ¬ (Contains (step ∷ path) Below) → ¬ (Contains path Below)
later_plain step path plain there = plain (Contains-rest step path Below there)

laid_later : (columns : ℕ) (step : Step) (path : List Step) (x : Entries) → AreLaidOut columns (with_path (step ∷ path) x)
    → AreLaidOut columns (with_path path x)
laid_later columns step path done laid = tt
laid_later columns step path (holds own term rest) laid = (later_plain step path laid.0, laid.1, tt)
laid_later columns step path (group own inner rest) laid = (later_plain step path laid.0, laid.1, laid.2, tt)

-- a path that is laid out has no `**`
pub none_below : (columns : ℕ) (path : List Step) (x : Entries) → IsSome x → AreLaidOut columns (with_path (Below ∷ path) x) → ⊥
none_below columns path done some laid = absurd some
none_below columns path (holds own term rest) some laid = laid.0 (Contains-head Below path)
none_below columns path (group own inner rest) some laid = laid.0 (Contains-head Below path)

module _ (columns : ℕ) (tasks : List Task) (node : Node) where
  pub ready_entry : (x rest : Entries) → AreReady columns ((before x rest, node) ∷ tasks)
      → AreReady columns ((with_path (first_path x) x, node) ∷ (rest, node) ∷ tasks)
  ready_entry x rest ready =
      let laid = laid_first columns x rest ready.laid_out.0 in record {
        laid_out = (laid.0, (laid.1, ready.laid_out.1));
        once = λ k within. omega (arith, ready.once k within, times_before k (first_path x) x rest);
      }

  pub ready_rest : AreReady columns ((done, node) ∷ tasks) → AreReady columns tasks
  ready_rest ready = record { laid_out = ready.laid_out.1; once = λ k within. omega (arith, ready.once k within) }

  pub ready_value : (term : Term) → AreReady columns ((holds [] term done, node) ∷ tasks) → AreReady columns tasks
  ready_value term ready = record { laid_out = ready.laid_out.1; once = λ k within. omega (arith, ready.once k within) }

  pub ready_step : (step : Step) (path : List Step) (x : Entries) (other : Node) → AreReady columns ((with_path (step ∷ path) x, node) ∷ tasks)
      → AreReady columns ((with_path path x, other) ∷ tasks)
  ready_step step path x other ready = record {
    laid_out = (laid_later columns step path x ready.laid_out.0, ready.laid_out.1);
    once = λ k within. omega (arith, ready.once k within, times_path k (step ∷ path) path x);
  }

  pub ready_group : (inner : Entries) → AreReady columns ((group [] inner done, node) ∷ tasks) → AreReady columns ((inner, node) ∷ tasks)
  ready_group inner ready = record {
    laid_out = (ready.laid_out.0.2, ready.laid_out.1);
    once = λ k within. omega (arith, ready.once k within);
  }

-- ---- rows that are gained

gains_as : (P Q : Row → Type 0) (old new : List Row) → ((row : Row) → P row ↔ Q row) → Gains P old new → Gains Q old new
gains_as P Q old new same gains row = (
  (λ there. elim ((gains row).0 there) [ inl h ↦ inl h | inr h ↦ inr ((same row).0 h) ]),
  (λ h. (gains row).1 (elim h [ inl there ↦ inl there | inr q ↦ inr ((same row).1 q) ])),
)

gains_nothing : (P : Row → Type 0) (old : List Row) → ((row : Row) → P row → ⊥) → Gains P old old
gains_nothing P old none row = ((λ h. inl h), (λ h. elim h [ inl there ↦ there | inr p ↦ absurd (none row p) ]))

-- The same fillings, by other tasks in which the columns stand as often, and which are matched under the same rows' maps.
pub fills_as : (columns : ℕ) (tasks others : List Task) (cells new_cells : Row) (old new : List Row)
    → ((k : ℕ) → times_in k tasks ≡ times_in k others)
    → ((row : Row) → AllMatched (row_map row) tasks ↔ AllMatched (row_map row) others)
    → Fills columns tasks cells new_cells old new → Fills columns others cells new_cells old new
fills_as columns tasks others cells new_cells old new times same fills = record {
  gains = gains_as (Completes columns tasks cells) (Completes columns others cells) old new (λ row. (into row, from row)) fills.gains;
  count = fills.count;
  kept = λ k none. fills.kept k (times k ∙ none);
} where
  into : (row : Row) → Completes columns tasks cells row → Completes columns others cells row
  into row h = record { count = h.count; kept = λ k none. h.kept k (times k ∙ none); matched = (same row).0 h.matched }

  from : (row : Row) → Completes columns others cells row → Completes columns tasks cells row
  from row h = record { count = h.count; kept = λ k none. h.kept k (sym (times k) ∙ none); matched = (same row).1 h.matched }

pub fills_nothing : (columns : ℕ) (tasks : List Task) (cells : Row) (old : List Row) → ((row : Row) → AllMatched (row_map row) tasks → ⊥)
    → Fills columns tasks cells cells old old
fills_nothing columns tasks cells old none = record {
  gains = gains_nothing (Completes columns tasks cells) old (λ row h. none row h.matched);
  count = refl;
  kept = λ k e. refl;
}

pub fills_row : (columns : ℕ) (cells : Row) (old : List Row) → length cells ≡ columns → Fills columns [] cells cells old (old ++ cells ∷ [])
fills_row columns cells old size = record {
  gains = gains_append (Completes columns [] cells) old (cells ∷ []) (λ row. (into row, from row));
  count = refl;
  kept = λ k e. refl;
} where
  whole : Completes columns [] cells cells
  whole = record { count = size; kept = λ k e. refl; matched = tt }

  into : (row : Row) → Contains (cells ∷ []) row → Completes columns [] cells row
  into row there = subst (λ (r : Row). Completes columns [] cells r) (Contains-one cells row there) whole

  from : (row : Row) → Completes columns [] cells row → Contains (cells ∷ []) row
  from row h = subst (Contains (cells ∷ [])) (same_rows columns cells row size h.count (λ k within. h.kept k refl)) (Contains-head cells [])

-- ---- one entry

pub matched_before : (m : Term → Term) (node : Node) (x rest : Entries)
    → (Matches m (with_path (first_path x) x) node × Matches m rest node) ↔ Matches m (before x rest) node
matched_before m node done rest = ((λ h. h.1), (λ h. (tt, h)))
matched_before m node (holds path term others) rest = ((λ h. (h.0.0, h.1)), (λ h. ((h.0, tt), h.1)))
matched_before m node (group path inner others) rest = ((λ h. (h.0.0, h.1)), (λ h. ((h.0, tt), h.1)))

pub matched_step : (m : Term → Term) (node : Node) (step : Step) (path : List Step) (x : Entries) → IsSome x
    → Matches m (with_path (step ∷ path) x) node ↔ ((found : Node) × Takes step node found × Matches m (with_path path x) found)
matched_step m node step path done some = absurd some
matched_step m node step path (holds own term rest) some = (
  (λ h. (h.0.1.0, h.0.1.1, ((h.0.0, h.0.1.2, h.0.2), tt))),
  (λ h. ((h.2.0.0, (h.0, h.1, h.2.0.1), h.2.0.2), tt)),
)
matched_step m node step path (group own inner rest) some = (
  (λ h. (h.0.1.0, h.0.1.1, ((h.0.0, h.0.1.2, h.0.2), tt))),
  (λ h. ((h.2.0.0, (h.0, h.1, h.2.0.1), h.2.0.2), tt)),
)

module _ (columns : ℕ) (tasks : List Task) (node : Node) (cells new_cells : Row) (old new : List Row) where
  pub fills_entry : (x rest : Entries) → Fills columns ((with_path (first_path x) x, node) ∷ (rest, node) ∷ tasks) cells new_cells old new
      → Fills columns ((before x rest, node) ∷ tasks) cells new_cells old new
  fills_entry x rest fills =
      fills_as columns ((with_path (first_path x) x, node) ∷ (rest, node) ∷ tasks) ((before x rest, node) ∷ tasks) cells new_cells old new
      (λ k. omega (arith, times_before k (first_path x) x rest))
      (λ row. (
        (λ h. ((matched_before (row_map row) node x rest).0 (h.0, h.1.0), h.1.1)),
        (λ h. let parts = (matched_before (row_map row) node x rest).1 h.0 in (parts.0, (parts.1, h.1))),
      )) fills

  pub fills_rest : Fills columns tasks cells new_cells old new → Fills columns ((done, node) ∷ tasks) cells new_cells old new
  fills_rest fills =
      fills_as columns tasks ((done, node) ∷ tasks) cells new_cells old new (λ k. omega arith) (λ row. ((λ h. (tt, h)), (λ h. h.1))) fills

  pub fills_group : (inner : Entries) → Fills columns ((inner, node) ∷ tasks) cells new_cells old new
      → Fills columns ((group [] inner done, node) ∷ tasks) cells new_cells old new
  fills_group inner fills =
      fills_as columns ((inner, node) ∷ tasks) ((group [] inner done, node) ∷ tasks) cells new_cells old new (λ k. omega arith)
      (λ row. (
        (λ h. (((node, refl, h.0), tt), h.1)),
        (λ h. (subst (λ (n : Node). Matches (row_map row) inner n) (sym h.0.0.1) h.0.0.2, h.1)),
      )) fills

  pub fills_member : (k : List ℕ) (path : List Step) (x : Entries) (found : Node) → IsSome x
      → ((u : Node) → HasKid node.inside (name k) u ↔ (found ≡ u)) → Fills columns ((with_path path x, found) ∷ tasks) cells new_cells old new
      → Fills columns ((with_path (Name k ∷ path) x, node) ∷ tasks) cells new_cells old new
  fills_member k path x found some is fills =
      fills_as columns ((with_path path x, found) ∷ tasks) ((with_path (Name k ∷ path) x, node) ∷ tasks) cells new_cells old new
      (λ c. omega (arith, times_path c path (Name k ∷ path) x))
      (λ row. (
        (λ h. ((matched_step (row_map row) node (Name k) path x some).1 (found, (is found).1 refl, h.0), h.1)),
        (λ h. let parts = (matched_step (row_map row) node (Name k) path x some).0 h.0 in
            (subst (λ (n : Node). Matches (row_map row) (with_path path x) n) (sym ((is parts.0).0 parts.1)) parts.2, h.1)),
      )) fills

  pub fills_items : (path : List Step) (x : Entries) (nodes : List Node) → IsSome x
      → ((u : Node) → HasKid node.inside place u ↔ Contains nodes u) → FillsSome columns (with_path path x) nodes tasks cells new_cells old new
      → Fills columns ((with_path (Item ∷ path) x, node) ∷ tasks) cells new_cells old new
  fills_items path x nodes some are fills = record {
    gains = gains_as (CompletesSome columns (with_path path x) nodes tasks cells) (Completes columns ((with_path (Item ∷ path) x, node) ∷ tasks) cells)
        old new (λ row. (into row, from row)) fills.gains;
    count = fills.count;
    kept = λ c none. fills.kept node c (omega (arith, times_path c path (Item ∷ path) x, none));
  } where
    into : (row : Row) → CompletesSome columns (with_path path x) nodes tasks cells row
        → Completes columns ((with_path (Item ∷ path) x, node) ∷ tasks) cells row
    into row (found, among, h) = record {
      count = h.count;
      kept = λ c none. h.kept c (omega (arith, times_path c path (Item ∷ path) x, none));
      matched = ((matched_step (row_map row) node Item path x some).1 (found, (are found).1 among, h.matched.0), h.matched.1);
    }

    from : (row : Row) → Completes columns ((with_path (Item ∷ path) x, node) ∷ tasks) cells row
        → CompletesSome columns (with_path path x) nodes tasks cells row
    from row h =
        let parts = (matched_step (row_map row) node Item path x some).0 h.matched.0 in (
          parts.0,
          (are parts.0).0 parts.1,
          record {
            count = h.count;
            kept = λ c none. h.kept c (omega (arith, times_path c path (Item ∷ path) x, none));
            matched = (parts.2, h.matched.1);
          },
        )

-- ---- the cell of a column

module _ (columns : ℕ) (tasks : List Task) (node : Node) (term : Term) (cells new_cells later_cells : Row) (old new : List Row) (text : List ℕ) where
  pub fills_value : AreReady columns ((holds [] term done, node) ∷ tasks) → length cells ≡ columns → node.content ≡ Some text
      → ((column : ℕ) → term ≡ Plain column → new_cells ≡ slice_set cells column text)
      → Fills columns tasks new_cells later_cells old new → Fills columns ((holds [] term done, node) ∷ tasks) cells later_cells old new
  fills_value ready size held put fills = record {
    gains = gains_as (Completes columns tasks new_cells) (Completes columns ((holds [] term done, node) ∷ tasks) cells) old new
        (λ row. (into row, from row)) fills.gains;
    count = fills.count ∙ ap length is ∙ length-set cells column text;
    kept = λ k none. sym (untouched k none) ∙ fills.kept k (omega (arith, none));
  } where
    column : ℕ
    column = ready.laid_out.0.1.0

    named : term ≡ Plain column
    named = ready.laid_out.0.1.1

    is : new_cells ≡ slice_set cells column text
    is = put column named

    stands : times_by_kind column (out-Term term) ≡ 1
    stands = ap (λ (t : Term). times_by_kind column (out-Term t)) named ∙ same_times column

    free : times_in column tasks ≡ 0
    free = omega (arith, ready.once column ready.laid_out.0.1.2, stands)

    set_here : get_or new_cells column [] ≡ text
    set_here = ap (λ (r : Row). get_or r column []) is ∙ get_or-set_same cells column text [] (omega (arith, size, ready.laid_out.0.1.2))

    other : (k : ℕ) → k ≢ column → get_or new_cells k [] ≡ get_or cells k []
    other k apart = ap (λ (r : Row). get_or r k []) is ∙ get_or-set_other cells column k text [] apart

    untouched : (k : ℕ) → times_in k ((holds [] term done, node) ∷ tasks) ≡ 0 → get_or new_cells k [] ≡ get_or cells k []
    untouched k none = other k (λ e.
        let here : times_by_kind k (out-Term term) ≡ 1 = subst (λ (c : ℕ). times_by_kind c (out-Term term) ≡ 1) (sym e) stands in
        absurd (omega (arith, here, none)))

    in_row : (row : Row) → text_in row term ≡ get_or row column []
    in_row row = ap (text_in row) named ∙ text_column row column

    into : (row : Row) → Completes columns tasks new_cells row → Completes columns ((holds [] term done, node) ∷ tasks) cells row
    into row h = record {
      count = h.count;
      kept = λ k none. sym (untouched k none) ∙ h.kept k (omega (arith, none));
      matched = (((node, refl, (text, held, ap Const (in_row row ∙ sym (h.kept column free) ∙ set_here))), tt), h.matched);
    }

    from : (row : Row) → Completes columns ((holds [] term done, node) ∷ tasks) cells row → Completes columns tasks new_cells row
    from row h = record { count = h.count; kept = kept; matched = h.matched.1 } where
      at : (found : Node) × (node ≡ found) × HoldsTerm found (row_map row term)
      at = h.matched.0.0

      cell : get_or row column [] ≡ text
      cell =
          sym (in_row row) ∙ same_constant _ _ at.2.2
          ∙ sym (same_Some text at.2.0 (sym held ∙ ap (λ (n : Node). n.content) at.1 ∙ at.2.1))

      kept : AgreeOff tasks new_cells row
      kept k none = elim (cases_eq k column) [
        | inl e ↦ subst (λ (c : ℕ). get_or new_cells c [] ≡ get_or row c []) (sym e) (set_here ∙ sym cell)
        | inr apart ↦ other k apart ∙ h.kept k (off apart)
      ] where
        off : k ≢ column → times_in k ((holds [] term done, node) ∷ tasks) ≡ 0
        off apart =
            let here : times_by_kind k (out-Term term) ≡ 0 =
            ap (λ (t : Term). times_by_kind k (out-Term t)) named ∙ other_times column k (λ e. apart (sym e)) in omega (arith, here, none)

pub fills_memberless : (columns : ℕ) (tasks : List Task) (node : Node) (cells : Row) (old : List Row) (k : List ℕ) (path : List Step) (x : Entries) → IsSome x
    → ((found : Node) → HasKid node.inside (name k) found → ⊥) → Fills columns ((with_path (Name k ∷ path) x, node) ∷ tasks) cells cells old old
fills_memberless columns tasks node cells old k path x some none =
    fills_nothing columns ((with_path (Name k ∷ path) x, node) ∷ tasks) cells old
    (λ row h. let found = (matched_step (row_map row) node (Name k) path x some).0 h.0 in none found.0 found.1)

pub fills_groupless : (columns : ℕ) (tasks : List Task) (node : Node) (inner : Entries) (cells : Row) (old : List Row)
    → ((m : Term → Term) → Matches m inner node → ⊥) → Fills columns ((group [] inner done, node) ∷ tasks) cells cells old old
fills_groupless columns tasks node inner cells old none =
    fills_nothing columns ((group [] inner done, node) ∷ tasks) cells old
    (λ row h. none (row_map row) (subst (λ (n : Node). Matches (row_map row) inner n) (sym h.0.0.1) h.0.0.2))

pub fills_textless : (columns : ℕ) (tasks : List Task) (node : Node) (term : Term) (cells : Row) (old : List Row)
    → ((text : List ℕ) → node.content ≡ Some text → ⊥) → Fills columns ((holds [] term done, node) ∷ tasks) cells cells old old
fills_textless columns tasks node term cells old none =
    fills_nothing columns ((holds [] term done, node) ∷ tasks) cells old
    (λ row h. none h.0.0.2.0 (ap (λ (n : Node). n.content) h.0.0.1 ∙ h.0.0.2.1))

-- ---- items, one by one

module _ (columns : ℕ) (entries : Entries) (tasks : List Task) where
  moved : (node : Node) (cells other row : Row) → ((n : Node) → AgreeOff ((entries, n) ∷ tasks) cells other)
      → Completes columns ((entries, node) ∷ tasks) other row → Completes columns ((entries, node) ∷ tasks) cells row
  moved node cells other row same h = record { count = h.count; kept = λ k none. same node k none ∙ h.kept k none; matched = h.matched }

  moved_back : (node : Node) (cells other row : Row) → ((n : Node) → AgreeOff ((entries, n) ∷ tasks) cells other)
      → Completes columns ((entries, node) ∷ tasks) cells row → Completes columns ((entries, node) ∷ tasks) other row
  moved_back node cells other row same h = record { count = h.count; kept = λ k none. sym (same node k none) ∙ h.kept k none; matched = h.matched }

  pub some_starts : (cells : Row) (old : List Row) → FillsSome columns entries [] tasks cells cells old old
  some_starts cells old = record {
    gains = gains_nothing (CompletesSome columns entries [] tasks cells) old (λ row h. Contains-nil h.0 h.1);
    count = refl;
    kept = λ node k none. refl;
  }

  pub some_goes : (nodes : List Node) (node : Node) (cells now later : Row) (old rows new : List Row)
      → FillsSome columns entries nodes tasks cells now old rows → Fills columns ((entries, node) ∷ tasks) now later rows new
      → FillsSome columns entries (nodes ++ node ∷ []) tasks cells later old new
  some_goes nodes node cells now later old rows new so_far fills = record {
    gains = λ row. (into row, from row);
    count = fills.count ∙ so_far.count;
    kept = λ n k none. so_far.kept n k none ∙ fills.kept k none;
  } where
    into : (row : Row) → Contains new row → Contains old row ⊎ CompletesSome columns entries (nodes ++ node ∷ []) tasks cells row
    into row there = elim ((fills.gains row).0 there) [
      | inl before ↦ elim ((so_far.gains row).0 before) [ inl h ↦ inl h | inr h ↦ inr (h.0, Contains-append_left nodes (node ∷ []) h.0 h.1, h.2) ]
      | inr h ↦ inr (node, Contains-append_right nodes (node ∷ []) node (Contains-head node []), moved node cells now row so_far.kept h)
    ]

    from : (row : Row) → Contains old row ⊎ CompletesSome columns entries (nodes ++ node ∷ []) tasks cells row → Contains new row
    from row (inl h) = (fills.gains row).1 (inl ((so_far.gains row).1 (inl h)))
    from row (inr (found, among, h)) = elim (Contains-push_cases nodes node found among) [
      | inl there ↦ (fills.gains row).1 (inl ((so_far.gains row).1 (inr (found, there, h))))
      | inr is ↦ (fills.gains row).1 (inr (moved_back node cells now row so_far.kept
          (subst (λ (n : Node). Completes columns ((entries, n) ∷ tasks) cells row) (sym is) h)))
    ]

-- ---- a document

pub layout_ready : (columns : ℕ) (es : Entries) (node : Node) → IsLayout columns es → AreReady columns ((es, node) ∷ [])
layout_ready columns es node layout = record {
  laid_out = (layout.laid_out, tt);
  once = λ k within. omega (arith, once columns es k layout.laid_out (layout.once k within));
}

pub document_rows : (columns : ℕ) (es : Entries) (tree : Tree) (cells : Row) (old new : List Row) → IsLayout columns es → length cells ≡ columns
    → Gains (Completes columns ((es, shape tree) ∷ []) cells) old new → Gains (IsRowOf columns es (tree ∷ [])) old new
document_rows columns es tree cells old new layout size =
    gains_as (Completes columns ((es, shape tree) ∷ []) cells) (IsRowOf columns es (tree ∷ [])) old new (λ row. (into row, from row)) where
      into : (row : Row) → Completes columns ((es, shape tree) ∷ []) cells row → IsRowOf columns es (tree ∷ []) row
      into row h = (h.count, (tree, Contains-head tree [], h.matched.0))

      beyond : (r : Row) (k : ℕ) → length r ≤ k → get_or r k [] ≡ []
      beyond [] k h = refl
      beyond (x ∷ r) zero h = absurd (omega (arith, h))
      beyond (x ∷ r) (suc k) h = beyond r k (omega (arith, h))

      outside : (k : ℕ) → times_in k ((es, shape tree) ∷ []) ≡ 0 → columns ≤ k
      outside k none = elim (cases_lt k columns) [
        | inl within ↦ absurd (omega (arith, none, once columns es k layout.laid_out (layout.once k within)))
        | inr past ↦ past
      ]

      from : (row : Row) → IsRowOf columns es (tree ∷ []) row → Completes columns ((es, shape tree) ∷ []) cells row
      from row (count, (other, among, matches)) =
          let same = Contains-one tree other among in record {
            count = count;
            kept = λ k none. beyond cells k (omega (arith, size, outside k none)) ∙ sym (beyond row k (omega (arith, count, outside k none)));
            matched = (subst (λ (x : Tree). Matches (row_map row) es (shape x)) (sym same) matches, tt);
          }

pub document_none : (columns : ℕ) (es : Entries) (tree : Tree) (old : List Row) → ((row : Row) → Matches (row_map row) es (shape tree) → ⊥)
    → Gains (IsRowOf columns es (tree ∷ [])) old old
document_none columns es tree old none =
    gains_nothing (IsRowOf columns es (tree ∷ [])) old
    (λ row h. none row (subst (λ (x : Tree). Matches (row_map row) es (shape x)) (sym (Contains-one tree h.1.0 h.1.1)) h.1.2))
