use Rattle.std.proofs.Common.{◌∙◌, ◌++◌, Some, ap, sym, inl, inr, take}
use Rattle.std.specs.FinMap as map
use Rattle.std.specs.Ordering.{nat_cmp}
use Rattle.esto_ports.specs.Faults.{next_count}
use Rattle.esto_ports.proofs.CallLemmas.{rose, stays}
use Rattle.esto_ports.proofs.SinkLemmas.{kept_seen, listed_seen, put_whole, put_part, refused}
use Rattle.esto_ports.proofs.memory_sink.MemorySinkSink.put.Goals as goal

pub returns-in-Some-clause-answer : goal.returns-in-Some-clause-answer
returns-in-Some-clause-answer c = (
  rose (c.saturating_add-self-inside-in-Some-2.ensures ∙ ap (λ s. next_count s.faults) c.self.view_is),
  (
    c.in-Some.kept,
    c.in_ok-append.ensures.ok ∙ ap (λ s. s.written ++ c.first.result.now) c.self.view_is
        ∙ ap (λ more. c.args.self.now.written ++ more) c.first.ensures,
  ),
)

pub returns-in-Some-clause-after : goal.returns-in-Some-clause-after
returns-in-Some-clause-after c = (
  c.in-Some.kept,
  kept_seen c.args.self.now _ _ c.self.view_is c.saturating_add-self-inside.ensures
      (sym c.in-Some.is ∙ c.find_kept.ensures
      ∙ ap (λ entries. map.get (map.from_entries {R = nat_cmp} entries) c.saturating_add-self-inside.result) c.items.ensures),
  put_part c.args.self.now _ _ c.self.view_is c.saturating_add-self-inside.ensures _ (take c.in-Some.kept c.args.bytes.now) _ _
      c.saturating_add-self-inside-in-Some.ensures (c.in_ok-append.ensures.ok ∙ ap (λ more. c.self.inside.written ++ more) c.first.ensures)
      c.saturating_add-self-inside-in-Some-2.ensures,
)

pub returns-then-is_listed-clause-later : goal.returns-then-is_listed-clause-later
returns-then-is_listed-clause-later c = stays (ap (λ s. s.faults) c.self.view_is)

pub returns-then-is_listed-clause-puts : goal.returns-then-is_listed-clause-puts
returns-then-is_listed-clause-puts c = inr (ap (λ s. Some s.puts) c.self.view_is)

pub returns-then-is_listed-clause-after : goal.returns-then-is_listed-clause-after
returns-then-is_listed-clause-after c = inl (
  kept_seen c.args.self.now _ _ c.self.view_is c.saturating_add-self-inside.ensures
      (sym c.in_default.is ∙ c.find_kept.ensures
      ∙ ap (λ entries. map.get (map.from_entries {R = nat_cmp} entries) c.saturating_add-self-inside.result) c.items.ensures),
  listed_seen c.args.self.now _ _ c.self.view_is c.saturating_add-self-inside.ensures c.items-2.ensures (sym c.if-is_listed.true ∙ c.is_listed.ensures),
  refused c.args.self.now _ _ c.self.view_is c.saturating_add-self-inside.ensures,
)

pub returns-clause-later : goal.returns-clause-later
returns-clause-later c = stays (ap (λ s. s.faults) c.self.view_is)

pub returns-clause-after : goal.returns-clause-after
returns-clause-after c = (
  kept_seen c.args.self.now _ _ c.self.view_is c.saturating_add-self-inside.ensures
      (sym c.in_default.is ∙ c.find_kept.ensures
      ∙ ap (λ entries. map.get (map.from_entries {R = nat_cmp} entries) c.saturating_add-self-inside.result) c.items.ensures),
  listed_seen c.args.self.now _ _ c.self.view_is c.saturating_add-self-inside.ensures c.items-2.ensures (sym c.if-is_listed.false ∙ c.is_listed.ensures),
  put_whole c.args.self.now _ _ c.self.view_is c.saturating_add-self-inside.ensures _ c.args.bytes.now _ c.saturating_add-self-inside-2.ensures
      c.in_ok-append-2.ensures.ok,
)

pub returns-clause-answer : goal.returns-clause-answer
returns-clause-answer c = c.in_ok-append-2.ensures.ok ∙ ap (λ s. s.written ++ c.args.bytes.now) c.self.view_is

pub returns-clause-puts : goal.returns-clause-puts
returns-clause-puts c = ap Some (c.saturating_add-self-inside-2.ensures ∙ ap (λ s. next_count s.puts) c.self.view_is)

pub returns-in-Some-clause-puts : goal.returns-in-Some-clause-puts
returns-in-Some-clause-puts c = ap Some (c.saturating_add-self-inside-in-Some.ensures ∙ ap (λ s. next_count s.puts) c.self.view_is)
