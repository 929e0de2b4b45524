use Rattle.esto_steps.proofs.PairLemmas.{same_kept}
use Rattle.esto_steps.proofs.pairs.is_same_at.Goals as goal

pub returns-then-seem_same : goal.returns-then-seem_same
returns-then-seem_same c = λ told. same_kept c.args.kept.now c.args.so_far.now c.args.rows.now c.args.pairs.now c.args.at c.item-other.result.now c.args.pair
    c.item-other.ensures (c.are_same.ensures told)
