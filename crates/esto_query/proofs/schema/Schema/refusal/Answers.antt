use Rattle.std.proofs.Common.{sym, ◌∙◌}
use Rattle.esto_query.specs.Schemas.{names_of}
use Rattle.esto_query.proofs.SchemaLemmas.{same_name_told, some_found}
use Rattle.esto_query.proofs.schema.Schema.refusal.Goals as goal
use Rattle.esto_term.proofs.ListLemmas.{Contains-at}

pub returns-then-is_some : goal.returns-then-is_some
returns-then-is_some c =
    let there = some_found c.find.result _ _ (sym c.is_some.ensures ∙ c.if-is_some.true) c.find.ensures in
    (same_name_told, Contains-at (names_of c.args.self.now) there.0 _ there.1)
