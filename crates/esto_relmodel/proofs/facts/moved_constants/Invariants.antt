use Rattle.std.proofs.Common.{◌≡◌, map}
use Rattle.esto_term.specs.declared.term.Term.TheVariants.{Const}
use Rattle.esto_relmodel.proofs.facts.moved_constants.Given as goal

-- the terms are the constants of the cells so far
abbrev pub invariant-cells : goal.invariant-cells
invariant-cells l = l.terms ≡ map Const l.yielded
