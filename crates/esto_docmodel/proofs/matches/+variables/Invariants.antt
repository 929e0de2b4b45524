use Rattle.std.proofs.Common.{drop}
use Rattle.esto_docmodel.specs.Shapes.{entries_of}
use Rattle.esto_docmodel.proofs.VariableLemmas.{HasPut}
use Rattle.esto_docmodel.proofs.matches.+variables.Given as goal

abbrev pub invariant-put_variables-entries : goal.invariant-put_variables-entries
invariant-put_variables-entries l =
    HasPut l.initial.variables.items l.variables.items (entries_of (drop l.entry-index l.entries)) (entries_of l.entries)
