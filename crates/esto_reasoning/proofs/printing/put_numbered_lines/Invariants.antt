use Rattle.std.proofs.Common.{◌≡◌, ◌++◌, drop}
use Rattle.esto_views.specs.Printing.{each_from}
use Rattle.esto_query.specs.Schemas.{names_of}
use Rattle.esto_reasoning.specs.Texts.{numbered_line}
use Rattle.esto_reasoning.proofs.printing.put_numbered_lines.Given as goal

abbrev pub invariant-facts : goal.invariant-facts
invariant-facts l =
    l.text ++ each_from (numbered_line (names_of l.schema) l.names l.nameless) l.place (drop l.place l.facts)
    ≡ l.initial.text ++ each_from (numbered_line (names_of l.schema) l.names l.nameless) 0 l.facts
