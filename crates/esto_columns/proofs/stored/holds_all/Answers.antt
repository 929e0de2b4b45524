use Rattle.std.proofs.lemmas.List.Elements.{Contains-get_or}
use Rattle.esto_columns.proofs.stored.holds_all.Goals as goal

pub holds-requires : goal.holds-requires
holds-requires c = c.requires _ (Contains-get_or c.args.inputs.now c.inputs.input-index (record { column = 0; code = 0 }) c.inputs-test.true)
