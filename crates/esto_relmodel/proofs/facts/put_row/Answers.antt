use Rattle.std.proofs.lemmas.Result.{on_ok_weaker}
use Rattle.esto_relmodel.proofs.OnceLemmas.{one_more}
use Rattle.esto_relmodel.proofs.facts.put_row.Goals as goal

pub returns-then-not-branch-clause-once : goal.returns-then-not-branch-clause-once
returns-then-not-branch-clause-once c = one_more c.in_ok-add.field-0 c.args.seen.now c.add.new.self c.args.row.now c.in_ok-add.ensures

pub returns-clause-once : goal.returns-clause-once
returns-clause-once c = on_ok_weaker c.push.result (λ _. one_more c.in_ok-add.field-0 c.args.seen.now c.add.new.self c.args.row.now c.in_ok-add.ensures)
    c.push.ensures.ok
