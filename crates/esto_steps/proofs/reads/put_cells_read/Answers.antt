use Rattle.std.proofs.Common.{◌++◌, map, flat_map, ap, ◌∙◌}
use Rattle.std.proofs.lemmas.Result.{on_ok_weaker}
use Rattle.esto_steps.specs.declared.steps.Link.{Link}
use Rattle.esto_steps.specs.declared.steps.Source.TheVariants.{Cell}
use Rattle.esto_steps.specs.Reads.{own_cells, filter_cells}
use Rattle.esto_steps.proofs.reads.put_cells_read.Goals as goal

pub returns : goal.returns
returns c = on_ok_weaker c.push_kept.result
    (λ grown. grown ∙ ap (λ them. them ++ flat_map (own_cells c.args.width) c.args.join.now.kept.now)
    (c.in_ok-push_filters.ensures ∙ ap (λ them. them ++ flat_map (filter_cells c.args.width) c.args.join.now.get.now.filters)
    (c.in_ok-push_columns.ensures ∙ ap (λ them. them ++ map (λ (link : Link). Cell link.column) c.args.join.now.get.now.inputs) c.requires)))
    c.push_kept.ensures
