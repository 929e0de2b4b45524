use Rattle.std.proofs.Common.{◌∙◌}
use Rattle.esto_steps.proofs.GatherLemmas.{kept_fit, kept_are}
use Rattle.esto_steps.proofs.gather.gathered.Goals as goal

pub of_columns-requires : goal.of_columns-requires
of_columns-requires c =
    kept_fit c.args.kept.now c.args.so_far.now c.args.rows.now c.args.pairs.now
    c.into_vec.result.items c.len.result (c.into_vec.ensures ∙ c.in_ok-columns.ensures) c.len.ensures

pub returns : goal.returns
returns c =
    c.of_columns.ensures ∙ kept_are c.args.kept.now c.args.so_far.now c.args.rows.now c.args.pairs.now
    c.into_vec.result.items c.len.result (c.into_vec.ensures ∙ c.in_ok-columns.ensures) c.len.ensures
