use Rattle.std.proofs.Common.{◌≡◌, map, take}
use Rattle.esto_query.specs.declared.query.Name.TheVariants.{Given}
use Rattle.esto_catalog.specs.Shapes.{column_of}
use Rattle.esto_catalog.proofs.shape.head_names.Given as goal

abbrev pub invariant-terms : goal.invariant-terms
invariant-terms l = l.names ≡ map Given (map (column_of l.view.names) (take l.term-index l.term-items))
