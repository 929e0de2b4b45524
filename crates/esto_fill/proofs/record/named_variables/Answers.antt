use Rattle.std.proofs.Common.{subst}
use Rattle.esto_fill.specs.Placing.{AddsNamed}
use Rattle.esto_fill.proofs.RecordLemmas.{named_more}
use Rattle.esto_fill.proofs.record.named_variables.Goals as goal

pub atoms-preserved : goal.atoms-preserved
atoms-preserved c =
    named_more c.args.names.now c.items-atom-items.result.now c.atoms.atom-index c.atom-item.result c.atoms.variables c.put_variables.new.variables
    c.atoms-test.true c.atom-item.is c.atoms.invariant
    (subst (λ terms. AddsNamed c.args.names.now terms c.atoms.variables c.put_variables.new.variables) c.items.ensures c.in_ok-put_variables.ensures)
