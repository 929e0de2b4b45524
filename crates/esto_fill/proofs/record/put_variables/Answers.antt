use Rattle.esto_fill.proofs.RecordLemmas.{adds_all, adds_more}
use Rattle.esto_fill.proofs.record.put_variables.Goals as goal

pub terms-preserved : goal.terms-preserved
terms-preserved c =
    adds_more c.args.names.now c.args.terms.now c.args.variables.now c.terms.variables c.put_variable.new.variables c.terms.term-index c.term-item.result
    c.terms-test.true c.term-item.is c.terms.invariant c.in_ok-put_variable.ensures

pub returns : goal.returns
returns c = adds_all c.args.names.now c.args.terms.now c.args.variables.now c.terms.variables c.terms.term-index c.terms-test.false c.terms.invariant
