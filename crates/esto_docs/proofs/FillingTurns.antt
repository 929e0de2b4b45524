-- The turns of filling rows along a layout.
use Rattle.std.proofs.Common.{◌≡◌, ◌∙◌, ◌<◌, ◌+◌, ◌*◌, ◌++◌, ℕ, List, [], ◌∷◌, length, map, take, get_or, Bor, sym, ap, subst, arith}
use Rattle.std.proofs.lemmas.List.{take_more, map-append, map_more}
use Rattle.serde_json.specs.View.{view}
use Rattle.serde_json.specs.declared.value.Value.{Value}
use Rattle.esto_docmodel.specs.Forests.{Node}
use Rattle.esto_docmodel.specs.Layouts.{first_path}
use Rattle.esto_docmodel.specs.Patterns.{Entries, done}
use Rattle.esto_docmodel.specs.Shapes.{entries_of}
use Rattle.esto_docmodel.specs.declared.pattern.Entry.{Entry}
use Rattle.esto_docmodel.specs.declared.pattern.Step.{Step}
use Rattle.esto_docs.specs.Filling.{value_node, value_text, cells_of, Task, AreReady, Fills, tasks_of, with_path}
use Rattle.esto_docs.specs.Rows.{Row}
use Rattle.esto_docs.specs.declared.filling.Todo.{Todo}
use Rattle.esto_docs.specs.declared.filling.Todo.TheVariants as left
use Rattle.esto_docs.proofs.FillingLemmas.{tasks-Nothing, tasks-Entries, cells_count, before, entries_first, weight, end_weight, weight_in, weight_first}
use Rattle.esto_docs.proofs.FillingLemmas.{ready_entry, ready_rest, fills_entry, fills_rest, fills_row}

-- ---- what is left to match

pub all_done : (values : List (Bor Value)) (todo : Todo) (old new : List Row) → todo ≡ left.Nothing → new ≡ old ++ cells_of values ∷ []
    → Fills (length values) (tasks_of todo) (cells_of values) (cells_of values) old new
all_done values todo old new none is =
    subst (λ (tasks : List Task). Fills (length values) tasks (cells_of values) (cells_of values) old new) (sym (ap tasks_of none ∙ tasks-Nothing))
    (subst (λ (rows : List Row). Fills (length values) [] (cells_of values) (cells_of values) old rows) (sym is)
    (fills_row (length values) (cells_of values) old (cells_count values)))

-- entries in a value, after which nothing is left
pub only_task : (entries : Bor (List Entry)) (value : Bor Value) (later : Bor Todo) → later.now ≡ left.Nothing
    → tasks_of (left.Entries entries value later) ≡ (entries_of entries.now, value_node (view value.now)) ∷ []
only_task entries value later none =
    tasks-Entries entries value later
    ∙ ap (λ (ts : List Task). (entries_of entries.now, value_node (view value.now)) ∷ ts) (ap tasks_of none ∙ tasks-Nothing)

module _ (columns : ℕ) (todo : Todo) (entries : Bor (List Entry)) (value : Bor Value) (later : Bor Todo) (is : todo ≡ left.Entries entries value later) where
  pub first_task : tasks_of todo ≡ (entries_of entries.now, value_node (view value.now)) ∷ tasks_of later.now
  first_task = ap tasks_of is ∙ tasks-Entries entries value later

  pub first_weight : weight_in (tasks_of todo) ≡ weight (entries_of entries.now) + weight_in (tasks_of later.now)
  first_weight = ap weight_in first_task

  pub closed_ready : AreReady columns ((entries_of entries.now, value_node (view value.now)) ∷ tasks_of later.now) → AreReady columns (tasks_of todo)
  closed_ready = subst (AreReady columns) (sym first_task)

  pub opened_fills : (cells new_cells : Row) (old new : List Row) → Fills columns (tasks_of todo) cells new_cells old new
      → Fills columns ((entries_of entries.now, value_node (view value.now)) ∷ tasks_of later.now) cells new_cells old new
  opened_fills cells new_cells old new = subst (λ (ts : List Task). Fills columns ts cells new_cells old new) first_task

  -- ---- none of its entries is left

  module _ (split : entries.now ≡ []) where
    nothing : tasks_of todo ≡ (done, value_node (view value.now)) ∷ tasks_of later.now
    nothing = first_task ∙ ap (λ es. (entries_of es, value_node (view value.now)) ∷ tasks_of later.now) split

    pub rest_ready : AreReady columns (tasks_of todo) → AreReady columns (tasks_of later.now)
    rest_ready ready = ready_rest columns (tasks_of later.now) (value_node (view value.now)) (subst (AreReady columns) nothing ready)

    pub rest_lighter : weight_in (tasks_of todo) ≡ 1 + weight_in (tasks_of later.now)
    rest_lighter = ap weight_in nothing

    pub rest_fills : (cells new_cells : Row) (old new : List Row) → Fills columns (tasks_of later.now) cells new_cells old new
        → Fills columns (tasks_of todo) cells new_cells old new
    rest_fills cells new_cells old new fills =
        subst (λ (ts : List Task). Fills columns ts cells new_cells old new) (sym nothing)
        (fills_rest columns (tasks_of later.now) (value_node (view value.now)) cells new_cells old new fills)

  -- ---- its first entry, and what is left then

  module _ (rest : Bor (List Entry)) (e : Entry) (path : List Step) (split : entries.now ≡ e ∷ rest.now) (first : path ≡ first_path (entries_of (e ∷ []))) where
    abbrev more : Todo
    more = left.Entries rest value later

    abbrev node : Node
    node = value_node (view value.now)

    whole : tasks_of todo ≡ (before (entries_of (e ∷ [])) (entries_of rest.now), node) ∷ tasks_of later.now
    whole = first_task ∙ ap (λ (es : Entries). (es, node) ∷ tasks_of later.now) (ap entries_of split ∙ entries_first e rest.now)

    placed : (with_path path (entries_of (e ∷ [])), node) ∷ tasks_of more
        ≡ (with_path (first_path (entries_of (e ∷ []))) (entries_of (e ∷ [])), node) ∷ (entries_of rest.now, node) ∷ tasks_of later.now
    placed = λ i. (with_path (first i) (entries_of (e ∷ [])), node) ∷ tasks-Entries rest value later i

    pub entry_ready : AreReady columns (tasks_of todo)
        → AreReady columns ((with_path path (entries_of (e ∷ [])), value_node (view value.now)) ∷ tasks_of (left.Entries rest value later))
    entry_ready ready =
        subst (AreReady columns) (sym placed)
        (ready_entry columns (tasks_of later.now) node (entries_of (e ∷ [])) (entries_of rest.now) (subst (AreReady columns) whole ready))

    pub entry_fills : (cells new_cells : Row) (old new : List Row)
        → Fills columns ((with_path path (entries_of (e ∷ [])), value_node (view value.now)) ∷ tasks_of (left.Entries rest value later)) cells new_cells old new
        → Fills columns (tasks_of todo) cells new_cells old new
    entry_fills cells new_cells old new fills =
        let opened = subst (λ (ts : List Task). Fills columns ts cells new_cells old new) placed fills in
        subst (λ (ts : List Task). Fills columns ts cells new_cells old new) (sym whole)
        (fills_entry columns (tasks_of later.now) node cells new_cells old new (entries_of (e ∷ [])) (entries_of rest.now) opened)

    pub entry_lighter : weight_in (tasks_of todo)
        ≡ end_weight (entries_of (e ∷ [])) + length path + 1 + weight_in (tasks_of (left.Entries rest value later))
    entry_lighter =
        let here : weight (entries_of entries.now) ≡ length (first_path (entries_of (e ∷ []))) + 1
        + end_weight (entries_of (e ∷ [])) + weight (entries_of rest.now) =
        ap (λ es. weight (entries_of es)) split ∙ weight_first e rest.now in
        let there : weight_in (tasks_of more) ≡ weight (entries_of rest.now) + weight_in (tasks_of later.now) =
        ap weight_in (tasks-Entries rest value later) in
        omega (arith, first_weight, here, there, ap length first)

-- the entries of a group, matched before what is left
pub group_lighter : (todo : Todo) (entries : Bor (List Entry)) (value : Bor Value) (later : Bor Todo) (before t : ℕ)
    → todo ≡ left.Entries entries value later → before ≡ 1 + weight (entries_of entries.now)
    → 2 * (before + weight_in (tasks_of later.now)) ≡ t → 2 * weight_in (tasks_of todo) < t
group_lighter todo entries value later before t is heavier bound =
    omega (arith, first_weight 0 todo entries value later is, heavier, bound)

-- ---- items, one by one

pub items_more : (values : List Value) (i : ℕ) (value d : Value) → i < length values → value ≡ get_or values i d
    → map (λ v. value_node (view v)) (take (i + 1) values) ≡ map (λ v. value_node (view v)) (take i values) ++ value_node (view value) ∷ []
items_more values i value d within is =
    ap (map (λ v. value_node (view v))) (take_more values i d within)
    ∙ ap (λ (w : Value). map (λ v. value_node (view v)) (take i values ++ w ∷ [])) (sym is)
    ∙ map-append (λ v. value_node (view v)) (take i values) (value ∷ [])

-- a turn of the loop over values
pub cells_more : (values : List (Bor Value)) (index : ℕ) (value : Bor Value) (row new : Row) (text : List ℕ) → index < length values
    → value ≡ get_or values index value → row ≡ cells_of (take index values) → text ≡ value_text (view value.now) → new ≡ row ++ text ∷ []
    → new ≡ cells_of (take (index + 1) values)
cells_more values index value row new text within at so_far is more =
    more ∙ (λ i. so_far i ++ is i ∷ []) ∙ ap (λ (it : Bor Value). cells_of (take index values) ++ value_text (view it.now) ∷ []) at
    ∙ sym (map_more (λ (it : Bor Value). value_text (view it.now)) values index value within)
