use Rattle.esto_coded.proofs.WholeLemmas.{filters_below_more}
use Rattle.esto_coded.proofs.steps.filters_of.Goals as goal

pub columns-preserved : goal.columns-preserved
columns-preserved c = filters_below_more c.args.codes.now c.columns.codes c.push_column.new.codes c.args.bound.now c.args.terms.now c.columns.column
    c.columns.bound c.push_column.new.bound c.columns.links c.push_column.new.links c.index-terms-column.result c.columns.invariant c.columns-test.true
    c.index-terms-column.is c.push_column.ensures.grown c.in_ok-push_column.ensures.linked c.in_ok-push_column.ensures.bound
