use Rattle.std.proofs.Common.{◌≡◌, ◌++◌, drop}
use Rattle.esto_query.specs.Schemas.{names_of}
use Rattle.esto_reasoning.specs.Texts.{facts_lines}
use Rattle.esto_reasoning.proofs.printing.put_lines.Given as goal

abbrev pub invariant-facts : goal.invariant-facts
invariant-facts l =
    l.text ++ facts_lines (names_of l.schema) l.names l.nameless (drop l.fact-index l.facts)
    ≡ l.initial.text ++ facts_lines (names_of l.schema) l.names l.nameless l.facts
