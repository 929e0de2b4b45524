use Rattle.std.proofs.Common.{◌≡◌, take}
use Rattle.esto_docmodel.specs.Matching.{head_of}
use Rattle.esto_docmodel.proofs.matches.head_of.Given as goal

abbrev pub invariant-variables : goal.invariant-variables
invariant-variables l = l.head ≡ head_of (take l.variable-index l.variables)
