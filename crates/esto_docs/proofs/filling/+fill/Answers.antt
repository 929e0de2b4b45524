use Rattle.std.proofs.Common.{◌∙◌, ◌+◌, ◌∷◌, [], List, map, length, ℕ, refl, ap, sym, subst, arith}
use Rattle.std.proofs.lemmas.Result.{on_ok_weaker}
use Rattle.serde_json.specs.View.{view}
use Rattle.esto_docmodel.specs.Shapes.{entries_of}
use Rattle.esto_docmodel.specs.declared.pattern.Step.{Step}
use Rattle.esto_docmodel.specs.declared.pattern.Step.TheVariants.{Name}
use Rattle.esto_docmodel.specs.Forests.{Node}
use Rattle.esto_docmodel.specs.Layouts.{AreLaidOut}
use Rattle.serde_json.specs.declared.value.Value.{Value}
use Rattle.esto_docmodel.specs.Patterns.{Entries, Matches}
use Rattle.esto_docmodel.specs.declared.pattern.Entry.{Entry}
use Rattle.esto_term.specs.declared.term.Term.{Term}
use Rattle.esto_docs.specs.Filling.{value_node, cells_of, AreReady, Fills, FillsSome, tasks_of, with_path, value_text}
use Rattle.esto_docs.proofs.FillingLemmas.{weight, end_weight, entry_some, cells_count, fills_items, fills_member, fills_memberless, fills_value, none_below}
use Rattle.esto_docs.proofs.FillingLemmas.{ready_value, some_starts, value_weight, fills_textless, fills_groupless, fills_group, ready_step, ready_group}
use Rattle.esto_docs.proofs.FillingLemmas.{some_goes, value_end, group_end, group_weight}
use Rattle.esto_docs.proofs.HoldingLemmas.{textless, textful}
use Rattle.esto_docs.proofs.FillingTurns.{all_done, closed_ready, opened_fills, group_lighter, rest_ready, rest_fills, rest_lighter, entry_ready, entry_fills}
use Rattle.esto_docs.proofs.FillingTurns.{entry_lighter, items_more}
use Rattle.std.proofs.lemmas.List.{nil_from_length, take_all}
use Rattle.esto_docs.proofs.filling.+fill.Goals as goal

pub fill-returns-in-Nothing : goal.fill-returns-in-Nothing
fill-returns-in-Nothing t c =
    on_ok_weaker c.put_row.result (all_done c.args.cells.now c.args.todo c.args.rows.now c.put_row.new.rows c.in-Nothing.is) c.put_row.ensures

pub fill-fill-requires : goal.fill-fill-requires
fill-fill-requires t c =
    let split = nil_from_length c.in-Entries.entries.now c.in-None.ensures.cases in (
      omega (
        arith,
        rest_lighter (length c.args.cells.now) c.args.todo c.in-Entries.entries c.in-Entries.value c.in-Entries.later c.in-Entries.is split,
        c.decreases,
      ),
      rest_ready (length c.args.cells.now) c.args.todo c.in-Entries.entries c.in-Entries.value c.in-Entries.later c.in-Entries.is split c.requires,
    )

pub fill-returns-in-None : goal.fill-returns-in-None
fill-returns-in-None t c =
    let split = nil_from_length c.in-Entries.entries.now c.in-None.ensures.cases in
    on_ok_weaker c.fill.result
    (rest_fills (length c.args.cells.now) c.args.todo c.in-Entries.entries c.in-Entries.value c.in-Entries.later c.in-Entries.is split
    (cells_of c.args.cells.now) (cells_of c.fill.new.cells) c.args.rows.now c.fill.new.rows) c.fill.ensures

pub fill-follow-requires : goal.fill-follow-requires
fill-follow-requires t c =
    let columns = length c.args.cells.now in
    let lighter = entry_lighter columns c.args.todo c.in-Entries.entries c.in-Entries.value c.in-Entries.later c.in-Entries.is c.in-Some.rest
    c.in-Some.entry.now c.path_of.result.now c.in-Some.ensures.cases.0 c.path_of.ensures.first in (
      omega (arith, lighter, c.decreases),
      entry_ready columns c.args.todo c.in-Entries.entries c.in-Entries.value c.in-Entries.later c.in-Entries.is c.in-Some.rest
          c.in-Some.entry.now c.path_of.result.now c.in-Some.ensures.cases.0 c.path_of.ensures.first c.requires,
    )

pub fill-returns-in-Some : goal.fill-returns-in-Some
fill-returns-in-Some t c =
    on_ok_weaker c.follow.result
    (entry_fills (length c.args.cells.now) c.args.todo c.in-Entries.entries c.in-Entries.value c.in-Entries.later c.in-Entries.is c.in-Some.rest
    c.in-Some.entry.now c.path_of.result.now c.in-Some.ensures.cases.0 c.path_of.ensures.first
    (cells_of c.args.cells.now) (cells_of c.follow.new.cells) c.args.rows.now c.follow.new.rows) c.follow.ensures

pub follow-reach-requires : goal.follow-reach-requires
follow-reach-requires t c =
    let first = entries_of (c.args.entry.now ∷ []) in
    let none = nil_from_length c.args.path.now c.in_default.ensures.cases in (
      omega (arith, c.decreases),
      subst (λ (p : List Step). AreReady (length c.args.cells.now) ((with_path p first, value_node (view c.args.value.now)) ∷ tasks_of c.args.todo))
          none c.requires,
    )

pub follow-returns-in_default : goal.follow-returns-in_default
follow-returns-in_default t c =
    let first = entries_of (c.args.entry.now ∷ []) in
    let none = nil_from_length c.args.path.now c.in_default.ensures.cases in
    on_ok_weaker c.reach.result
    (subst (λ (p : List Step). Fills (length c.args.cells.now) ((with_path p first, value_node (view c.args.value.now)) ∷ tasks_of c.args.todo)
    (cells_of c.args.cells.now) (cells_of c.reach.new.cells) c.args.rows.now c.reach.new.rows) (sym none)) c.reach.ensures

pub follow-follow-requires : goal.follow-follow-requires
follow-follow-requires t c =
    let columns = length c.args.cells.now in
    let first = entries_of (c.args.entry.now ∷ []) in
    let ready = subst (λ (p : List Step). AreReady columns ((with_path p first, value_node (view c.args.value.now)) ∷ tasks_of c.args.todo))
    c.in-Some.ensures.cases.0 c.requires in (
      omega (arith, ap length c.in-Some.ensures.cases.0, c.decreases),
      ready_step columns (tasks_of c.args.todo) (value_node (view c.args.value.now)) c.in-Some.step.now c.in-Some.rest.now
          first (value_node (view c.in-Some-member_of.member.now)) ready,
    )

pub follow-follow_items-requires : goal.follow-follow_items-requires
follow-follow_items-requires t c =
    let columns = length c.args.cells.now in
    let first = entries_of (c.args.entry.now ∷ []) in
    let ready = subst (λ (p : List Step). AreReady columns ((with_path p first, value_node (view c.args.value.now)) ∷ tasks_of c.args.todo))
    c.in-Some.ensures.cases.0 c.requires in (
      omega (arith, ap length c.in-Some.ensures.cases.0, c.decreases),
      λ node. ready_step columns (tasks_of c.args.todo) (value_node (view c.args.value.now)) c.in-Some.step.now c.in-Some.rest.now
          first node ready,
    )

pub follow-returns-in-Some-member_of : goal.follow-returns-in-Some-member_of
follow-returns-in-Some-member_of t c =
    let columns = length c.args.cells.now in
    let node = value_node (view c.args.value.now) in
    let cells = cells_of c.args.cells.now in
    let first = entries_of (c.args.entry.now ∷ []) in
    let whole = c.in-Some.ensures.cases.0 ∙ ap (λ (s : Step). s ∷ c.in-Some.rest.now) (c.in-Name.is ∙ ap Name (sym c.as_str.ensures)) in
    on_ok_weaker c.follow.result
    (λ fills. subst (λ (p : List Step). Fills columns ((with_path p first, node) ∷ tasks_of c.args.todo) cells
    (cells_of c.follow.new.cells) c.args.rows.now c.follow.new.rows) (sym whole)
    (fills_member columns (tasks_of c.args.todo) node cells (cells_of c.follow.new.cells) c.args.rows.now c.follow.new.rows c.as_str.result.now
    c.in-Some.rest.now first (value_node (view c.in-Some-member_of.member.now)) (entry_some c.args.entry.now) c.in-Some-member_of.ensures fills))
    c.follow.ensures

pub follow-returns-in-None : goal.follow-returns-in-None
follow-returns-in-None t c =
    let columns = length c.args.cells.now in
    let node = value_node (view c.args.value.now) in
    let cells = cells_of c.args.cells.now in
    let first = entries_of (c.args.entry.now ∷ []) in
    let name = c.as_str.result.now in
    let whole = c.in-Some.ensures.cases.0 ∙ ap (λ (s : Step). s ∷ c.in-Some.rest.now) (c.in-Name.is ∙ ap Name (sym c.as_str.ensures)) in
    subst (λ (p : List Step). Fills columns ((with_path p first, node) ∷ tasks_of c.args.todo) cells cells c.args.rows.now c.args.rows.now)
    (sym whole)
    (fills_memberless columns (tasks_of c.args.todo) node cells c.args.rows.now name c.in-Some.rest.now first (entry_some c.args.entry.now)
    c.in-None.ensures)

pub follow-returns-in-Below : goal.follow-returns-in-Below
follow-returns-in-Below t c =
    let columns = length c.args.cells.now in
    let first = entries_of (c.args.entry.now ∷ []) in
    let whole = c.in-Some.ensures.cases.0 ∙ ap (λ (s : Step). s ∷ c.in-Some.rest.now) c.in-Below.is in
    absurd (none_below columns c.in-Some.rest.now first (entry_some c.args.entry.now)
    (subst (λ (p : List Step). AreLaidOut columns (with_path p first)) whole c.requires.laid_out.0))

pub follow-returns-in-Item : goal.follow-returns-in-Item
follow-returns-in-Item t c =
    let columns = length c.args.cells.now in
    let node = value_node (view c.args.value.now) in
    let cells = cells_of c.args.cells.now in
    let first = entries_of (c.args.entry.now ∷ []) in
    let whole = c.in-Some.ensures.cases.0 ∙ ap (λ (s : Step). s ∷ c.in-Some.rest.now) c.in-Item.is in
    on_ok_weaker c.follow_items.result
    (λ fills. subst (λ (p : List Step). Fills columns ((with_path p first, node) ∷ tasks_of c.args.todo) cells
    (cells_of c.follow_items.new.cells) c.args.rows.now c.follow_items.new.rows) (sym whole)
    (fills_items columns (tasks_of c.args.todo) node cells (cells_of c.follow_items.new.cells) c.args.rows.now c.follow_items.new.rows
    c.in-Some.rest.now first (map (λ v. value_node (view v)) c.items_of.result.now) (entry_some c.args.entry.now) c.items_of.ensures fills))
    c.follow_items.ensures

pub follow_items-follow-requires : goal.follow_items-follow-requires
follow_items-follow-requires t c =
    let here = with_path c.args.path.now (entries_of (c.args.entry.now ∷ [])) in
    let node = value_node (view c.item-item.result) in (
      omega (arith, c.decreases),
      subst (λ (n : ℕ). AreReady n ((here, node) ∷ tasks_of c.args.todo)) (sym c.items.invariant.0) (c.requires node),
    )

pub follow_items-items-init : goal.follow_items-items-init
follow_items-items-init t c = (
  refl,
  some_starts (length c.args.cells.now) (with_path c.args.path.now (entries_of (c.args.entry.now ∷ []))) (tasks_of c.args.todo)
      (cells_of c.args.cells.now) c.args.rows.now,
)

pub follow_items-returns : goal.follow_items-returns
follow_items-returns t c =
    subst (λ (vs : List Value). FillsSome (length c.args.cells.now) (with_path c.args.path.now (entries_of (c.args.entry.now ∷ [])))
    (map (λ v. value_node (view v)) vs) (tasks_of c.args.todo) (cells_of c.args.cells.now) (cells_of c.items.cells) c.args.rows.now c.items.rows)
    (take_all c.items.item-index c.args.items.now c.items-test.false) c.items.invariant.1

pub follow_items-items-preserved : goal.follow_items-items-preserved
follow_items-items-preserved t c =
    let columns = length c.args.cells.now in
    let tasks = tasks_of c.args.todo in
    let cells = cells_of c.args.cells.now in
    let here = with_path c.args.path.now (entries_of (c.args.entry.now ∷ [])) in
    let node = value_node (view c.item-item.result) in
    let so_far = cells_of c.items.cells in
    let later = cells_of c.follow.new.cells in
    let fills = subst (λ (n : ℕ). Fills n ((here, node) ∷ tasks) so_far later c.items.rows c.follow.new.rows) c.items.invariant.0 c.in_ok-follow.ensures in (
      sym (cells_count c.follow.new.cells) ∙ fills.count ∙ cells_count c.items.cells ∙ c.items.invariant.0,
      subst (λ (ns : List Node). FillsSome columns here ns tasks cells later c.args.rows.now c.follow.new.rows)
          (sym (items_more c.args.items.now c.items.item-index c.item-item.result _ c.items-test.true c.item-item.is))
          (some_goes columns here tasks _ node cells so_far later c.args.rows.now c.items.rows c.follow.new.rows c.items.invariant.1 fills),
    )

pub reach-returns-then-not-holds_text : goal.reach-returns-then-not-holds_text
reach-returns-then-not-holds_text t c =
    let columns = length c.args.cells.now in
    let node = value_node (view c.args.value.now) in
    let cells = cells_of c.args.cells.now in
    subst (λ (x : Entries). Fills columns ((x, node) ∷ tasks_of c.args.todo) cells cells c.args.rows.now c.args.rows.now)
    (sym (value_end c.args.entry.now c.in-Value.field-0 c.in-Value.term c.in-Value.is))
    (fills_textless columns (tasks_of c.args.todo) node c.in-Value.term cells c.args.rows.now
    (λ text. textless (view c.args.value.now) text (sym c.holds_text.ensures ∙ c.if-not-holds_text.true)))

pub reach-returns-then-not-can_match : goal.reach-returns-then-not-can_match
reach-returns-then-not-can_match t c =
    let columns = length c.args.cells.now in
    let node = value_node (view c.args.value.now) in
    let cells = cells_of c.args.cells.now in
    subst (λ (x : Entries). Fills columns ((x, node) ∷ tasks_of c.args.todo) cells cells c.args.rows.now c.args.rows.now)
    (sym (group_end c.args.entry.now c.in-Group.field-0 c.in-Group.inner c.in-Group.is))
    (fills_groupless columns (tasks_of c.args.todo) node (entries_of c.in-Group.inner) cells c.args.rows.now
    (subst (λ (es : List Entry). (m : Term → Term) → ¬ (Matches m (entries_of es) node)) c.items-entries.ensures
    (c.can_match.ensures c.if-not-can_match.true)))

pub reach-put_cell-requires : goal.reach-put_cell-requires
reach-put_cell-requires t c =
    let ready = subst (λ (x : Entries). AreReady (length c.args.cells.now) ((x, value_node (view c.args.value.now)) ∷ tasks_of c.args.todo))
    (value_end c.args.entry.now c.in-Value.field-0 c.in-Value.term c.in-Value.is) c.requires in
    ready.laid_out.0.1

pub reach-fill-requires : goal.reach-fill-requires
reach-fill-requires t c =
    let tasks = tasks_of c.args.todo in
    let node = value_node (view c.args.value.now) in
    let ready = subst (λ (x : Entries). AreReady (length c.args.cells.now) ((x, node) ∷ tasks))
    (value_end c.args.entry.now c.in-Value.field-0 c.in-Value.term c.in-Value.is) c.requires in (
      omega (arith, value_weight c.args.entry.now c.in-Value.field-0 c.in-Value.term c.in-Value.is, c.decreases),
      subst (λ (n : ℕ). AreReady n tasks) (sym c.put_cell.ensures.count) (ready_value (length c.args.cells.now) tasks node c.in-Value.term ready),
    )

pub reach-fill-requires-in-Group : goal.reach-fill-requires-in-Group
reach-fill-requires-in-Group t c =
    let columns = length c.args.cells.now in
    let node = value_node (view c.args.value.now) in
    let inner = ap entries_of c.items-entries.ensures in
    let here = group_weight c.args.entry.now c.in-Group.field-0 c.in-Group.inner c.in-Group.is in (
      group_lighter _ c.items-entries.result c.args.value _ (end_weight (entries_of (c.args.entry.now ∷ []))) t refl
          (here ∙ ap (λ es. 1 + weight es) (sym inner)) c.decreases,
      closed_ready columns _ c.items-entries.result c.args.value _ refl
          (subst (λ (x : Entries). AreReady columns ((x, node) ∷ tasks_of c.args.todo)) (sym inner)
          (ready_group columns (tasks_of c.args.todo) node (entries_of c.in-Group.inner)
          (subst (λ (x : Entries). AreReady columns ((x, node) ∷ tasks_of c.args.todo))
          (group_end c.args.entry.now c.in-Group.field-0 c.in-Group.inner c.in-Group.is) c.requires))),
    )

pub reach-returns-else-not-holds_text : goal.reach-returns-else-not-holds_text
reach-returns-else-not-holds_text t c =
    let columns = length c.args.cells.now in
    let tasks = tasks_of c.args.todo in
    let node = value_node (view c.args.value.now) in
    let cells = cells_of c.args.cells.now in
    on_ok_weaker c.fill.result (λ fills.
    subst (λ (x : Entries). Fills columns ((x, node) ∷ tasks_of c.args.todo) cells (cells_of c.fill.new.cells) c.args.rows.now c.fill.new.rows)
    (sym (value_end c.args.entry.now c.in-Value.field-0 c.in-Value.term c.in-Value.is))
    (fills_value columns tasks node c.in-Value.term cells (cells_of c.put_cell.new.cells) (cells_of c.fill.new.cells)
    c.args.rows.now c.fill.new.rows (value_text (view c.args.value.now))
    (subst (λ (x : Entries). AreReady columns ((x, node) ∷ tasks_of c.args.todo))
    (value_end c.args.entry.now c.in-Value.field-0 c.in-Value.term c.in-Value.is) c.requires) (cells_count c.args.cells.now)
    (textful (view c.args.value.now) (sym c.holds_text.ensures ∙ c.if-not-holds_text.false)) c.put_cell.ensures.cell
    (subst (λ (n : ℕ). Fills n tasks (cells_of c.put_cell.new.cells) (cells_of c.fill.new.cells) c.args.rows.now c.fill.new.rows)
    c.put_cell.ensures.count fills)))
    c.fill.ensures

pub reach-returns-else-not-can_match : goal.reach-returns-else-not-can_match
reach-returns-else-not-can_match t c =
    let columns = length c.args.cells.now in
    let node = value_node (view c.args.value.now) in
    let cells = cells_of c.args.cells.now in
    let filled = cells_of c.fill-in-Group.new.cells in
    on_ok_weaker c.fill-in-Group.result (λ fills.
    subst (λ (x : Entries). Fills columns ((x, node) ∷ tasks_of c.args.todo) cells filled c.args.rows.now c.fill-in-Group.new.rows)
    (sym (group_end c.args.entry.now c.in-Group.field-0 c.in-Group.inner c.in-Group.is))
    (fills_group columns (tasks_of c.args.todo) node cells filled c.args.rows.now c.fill-in-Group.new.rows (entries_of c.in-Group.inner)
    (subst (λ (x : Entries). Fills columns ((x, node) ∷ tasks_of c.args.todo) cells filled c.args.rows.now c.fill-in-Group.new.rows)
    (ap entries_of c.items-entries.ensures)
    (opened_fills columns _ c.items-entries.result c.args.value _ refl cells filled c.args.rows.now c.fill-in-Group.new.rows fills))))
    c.fill-in-Group.ensures
