use Rattle.esto_term.proofs.list.Tuple2Replicate.copy.Goals as goal

pub returns : goal.returns
returns g c = λ i. (c.in_ok-copy.ensures i, c.in_ok-copy-2.ensures i)
