use Rattle.std.proofs.Common.{◌≡◌, ◌++◌, map, drop}
use Rattle.esto_term.specs.declared.term.Term.TheVariants.{Plain}
use Rattle.esto_constraint.proofs.encodings.add_atom.Given as goal

-- the terms so far, with the variables that are left, are all of them
abbrev pub invariant-variables : goal.invariant-variables
invariant-variables l = l.terms ++ map Plain (drop l.variable-index l.variables) ≡ map Plain l.variables
