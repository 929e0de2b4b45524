use Rattle.esto_coded.proofs.WholeLemmas.{below_more}
use Rattle.esto_coded.proofs.steps.gets_of.Goals as goal

pub atoms-preserved : goal.atoms-preserved
atoms-preserved c = let got = c.in_ok-push_get.ensures.get in
    below_more c.args.codes.now c.atoms.codes c.push_get.new.codes c.args.body.now c.atoms.atom-index c.atoms.bound c.push_get.new.bound c.atoms.gets
    c.push_get.new.gets c.atom-item.result got.0 c.atoms.invariant c.atoms-test.true c.atom-item.is c.push_get.ensures.grown got.1
    c.in_ok-push_get.ensures.bound got.2
