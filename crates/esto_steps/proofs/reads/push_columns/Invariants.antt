use Rattle.std.proofs.Common.{◌≡◌, ◌++◌, map, drop}
use Rattle.esto_steps.specs.declared.steps.Source.TheVariants.{Cell}
use Rattle.esto_steps.proofs.reads.push_columns.Given as goal

abbrev pub invariant-links : goal.invariant-links
invariant-links l = l.cells ++ map (λ link. Cell link.column) (drop l.link-index l.link-items) ≡ l.initial.cells ++ map (λ link. Cell link.column) l.links
