use Rattle.std.proofs.Common.{[], get_or, sym}
use Rattle.std.proofs.lemmas.List.{get_or_default}
use Rattle.esto_steps.specs.declared.steps.Source.TheVariants.{Code}
use Rattle.esto_steps.proofs.NamedLemmas.{none_names}
use Rattle.esto_steps.proofs.codes.name_codes.Goals as goal

pub returns-in_default : goal.returns-in_default
returns-in_default c =
    let source = get_or c.items-source-items.result.now c.sources.source-index (Code 0) in
    none_names (get_or c.args.rows.now.rows c.args.place []) c.args.sources.now c.items-source-items.result.now c.items-source-items.ensures
    c.sources.source-index source c.sources-test.true
    (get_or_default c.items-source-items.result.now c.sources.source-index (Code 0) source c.sources-test.true) (sym c.in_default.ensures)
