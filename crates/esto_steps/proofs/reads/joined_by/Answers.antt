use Rattle.std.proofs.lemmas.Result.{IfOk-weaker}
use Rattle.esto_steps.proofs.ReadLemmas.{join_few}
use Rattle.esto_steps.proofs.reads.joined_by.Goals as goal

pub returns : goal.returns
returns c = IfOk-weaker c.joined_linked.result _ _
    (λ it. join_few c.args.so_far.now.arity c.args.join.now.get.now c.args.join.now.kept.now c.args.cells.now c.args.so_far.now.rows c.args.rows.now.rows
    c.in_ok-few.few.rows it.rows c.arity-arity.ensures.fits c.requires.cells c.in_ok-few.ensures)
    c.joined_linked.ensures
