use Rattle.std.proofs.Common.{◌∙◌, ap, sym, inl, Some}
use Rattle.std.specs.FinMap as map
use Rattle.std.specs.Ordering.{nat_cmp}
use Rattle.std.specs.Cmp.Lexicographic.{slice_cmp}
use Rattle.esto_ports.specs.Faults.{next_count}
use Rattle.esto_ports.proofs.CallLemmas.{asks_any, asks_none, counted, counted_fault, fails_seen, looked_answers, looked_fetches, rose, stays, tells_name}
use Rattle.esto_ports.proofs.CallLemmas.{within_after}
use Rattle.esto_ports.proofs.memory_shelf.MemoryShelfShelf.fetch.Goals as goal

pub returns-in_err-asked-clause-asked : goal.returns-in_err-asked-clause-asked
returns-in_err-asked-clause-asked c =
    asks_none c.args.self.now.asked _ c.args.name.now c.from_residual.result c.from_residual.ensures.1 (ap (λ s. s.asked) c.self.view_is)

pub returns-in_err-push-clause-asked : goal.returns-in_err-push-clause-asked
returns-in_err-push-clause-asked c =
    asks_none c.args.self.now.asked _ c.args.name.now c.from_residual-in_err-push.result c.from_residual-in_err-push.ensures.1
    (c.in_err-push.ensures.err ∙ ap (λ s. s.asked) c.self.view_is)

pub returns-then-is_listed-clause-files : goal.returns-then-is_listed-clause-files
returns-then-is_listed-clause-files c = ap (λ s. Some s.files) c.self.view_is

pub returns-then-is_listed-clause-asked : goal.returns-then-is_listed-clause-asked
returns-then-is_listed-clause-asked c =
    inl (tells_name c.args.self.now _ c.args.name.now _ _ _ c.self.view_is c.saturating_add-self-inside.ensures c.in_ok-push.ensures.ok c.in_ok-asked.ensures)

pub returns-then-is_listed-clause-later : goal.returns-then-is_listed-clause-later
returns-then-is_listed-clause-later c = stays (ap (λ s. s.faults) c.self.view_is)

pub returns-then-is_listed-clause-after : goal.returns-then-is_listed-clause-after
returns-then-is_listed-clause-after c = inl (
  fails_seen c.args.self.now _ c.args.name.now _ _ _ c.self.view_is c.saturating_add-self-inside.ensures c.in_ok-push.ensures.ok c.in_ok-asked.ensures
      (ap (λ entries. map.from_entries {R = slice_cmp nat_cmp} entries) c.items.ensures) c.items-2.ensures c.bytes.ensures.value c.in-Some.ensures.0,
  counted c.args.self.now _ c.args.name.now _ _ _ c.self.view_is c.saturating_add-self-inside.ensures c.in_ok-push.ensures.ok c.in_ok-asked.ensures,
)

pub returns-else-is_listed-clause-answer : goal.returns-else-is_listed-clause-answer
returns-else-is_listed-clause-answer c =
    looked_fetches c.args.self.now c.args.name.now c.args.limit c.in-Some.file.now c.copy_within.result _ _
    (ap (λ entries. map.from_entries {R = slice_cmp nat_cmp} entries) c.items.ensures ∙ ap (λ s. s.files) c.self.view_is) c.bytes.ensures.value
    c.in-Some.ensures.1 c.copy_within.ensures

pub returns-else-is_listed-clause-files : goal.returns-else-is_listed-clause-files
returns-else-is_listed-clause-files c = ap (λ s. Some s.files) c.self.view_is

pub returns-else-is_listed-clause-asked : goal.returns-else-is_listed-clause-asked
returns-else-is_listed-clause-asked c = asks_any c.args.self.now.asked _ c.args.name.now c.copy_within.result
    (tells_name c.args.self.now _ c.args.name.now _ _ _ c.self.view_is c.saturating_add-self-inside.ensures c.in_ok-push.ensures.ok c.in_ok-asked.ensures)

pub returns-else-is_listed-clause-later : goal.returns-else-is_listed-clause-later
returns-else-is_listed-clause-later c = stays (ap (λ s. s.faults) c.self.view_is)

pub returns-else-is_listed-clause-exact : goal.returns-else-is_listed-clause-exact
returns-else-is_listed-clause-exact c =
    looked_answers c.args.self.now c.args.name.now c.args.limit c.in-Some.file.now c.copy_within.result
    (c.saturating_add-self-inside.ensures ∙ ap (λ s. next_count s.calls) c.self.view_is)
    (ap (λ entries. map.from_entries {R = slice_cmp nat_cmp} entries) c.items.ensures ∙ ap (λ s. s.files) c.self.view_is)
    (c.items-2.ensures ∙ ap (λ s. s.fails) c.self.view_is) c.bytes.ensures.value (c.items-in-Some.ensures ∙ ap (λ s. s.refuses) c.self.view_is)
    c.in-Some.ensures (sym c.is_listed.ensures ∙ c.if-is_listed.false) c.copy_within.ensures

pub returns-else-is_listed-clause-after : goal.returns-else-is_listed-clause-after
returns-else-is_listed-clause-after c =
    within_after c.args.self.now c.args.name.now c.in-Some.file.now c.args.limit c.copy_within.result _ c.copy_within.ensures
    (fails_seen c.args.self.now _ c.args.name.now _ _ _ c.self.view_is c.saturating_add-self-inside.ensures c.in_ok-push.ensures.ok c.in_ok-asked.ensures
    (ap (λ entries. map.from_entries {R = slice_cmp nat_cmp} entries) c.items.ensures) c.items-2.ensures c.bytes.ensures.value c.in-Some.ensures.0)
    (counted c.args.self.now _ c.args.name.now _ _ _ c.self.view_is c.saturating_add-self-inside.ensures c.in_ok-push.ensures.ok c.in_ok-asked.ensures)

pub returns-in-None-clause-answer : goal.returns-in-None-clause-answer
returns-in-None-clause-answer c = rose (c.saturating_add-self-inside-in-None.ensures ∙ ap (λ s. next_count s.faults) c.self.view_is)

pub returns-in-None-clause-files : goal.returns-in-None-clause-files
returns-in-None-clause-files c = ap (λ s. Some s.files) c.self.view_is

pub returns-in-None-clause-asked : goal.returns-in-None-clause-asked
returns-in-None-clause-asked c =
    tells_name c.args.self.now _ c.args.name.now _ _ _ c.self.view_is c.saturating_add-self-inside.ensures c.in_ok-push.ensures.ok c.in_ok-asked.ensures

pub returns-in-None-clause-exact : goal.returns-in-None-clause-exact
returns-in-None-clause-exact c =
    fails_seen c.args.self.now _ c.args.name.now _ _ _ c.self.view_is c.saturating_add-self-inside.ensures c.in_ok-push.ensures.ok c.in_ok-asked.ensures
    (ap (λ entries. map.from_entries {R = slice_cmp nat_cmp} entries) c.items.ensures) c.items-2.ensures c.bytes.ensures.value c.in-None.ensures

pub returns-in-None-clause-after : goal.returns-in-None-clause-after
returns-in-None-clause-after c =
    counted_fault c.args.self.now _ c.args.name.now _ _ _ c.self.view_is c.saturating_add-self-inside.ensures c.in_ok-push.ensures.ok c.in_ok-asked.ensures
    _ c.saturating_add-self-inside-in-None.ensures
