use Rattle.std.proofs.lemmas.Result.{on_ok_weaker}
use Rattle.esto_rows.proofs.WantedLemmas.{know_put}
use Rattle.esto_rows.proofs.keys.Keys.put.Goals as goal

pub returns-clause-know : goal.returns-clause-know
returns-clause-know c = on_ok_weaker c.push.result
    (λ more. know_put c.args.self.now c.add.new.self c.add-2.new.self c.push.new.self c.args.code c.args.key.now c.in_ok-add.ensures.ok
    c.in_ok-add-2.ensures.ok more
    c.requires.new)
    c.push.ensures.ok
