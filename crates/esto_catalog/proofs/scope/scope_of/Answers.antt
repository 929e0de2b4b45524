use Rattle.std.proofs.Common.{ap, ◌∙◌}
use Rattle.esto_mapping.specs.Datasets.{schema_of, words_of}
use Rattle.esto_catalog.proofs.SchemaLemmas.{scope_is}
use Rattle.esto_catalog.proofs.scope.scope_of.Goals as goal

pub returns-clause-scope : goal.returns-clause-scope
returns-clause-scope c = scope_is _ c.requires (c.in_ok-schema.ensures ∙ ap schema_of c.items-all.ensures)
    (c.in_ok-words.ensures ∙ ap words_of c.items-all.ensures)
