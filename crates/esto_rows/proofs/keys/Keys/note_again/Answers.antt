use Rattle.std.proofs.lemmas.Result.{on_ok_weaker}
use Rattle.esto_rows.proofs.WantedLemmas.{know_same, know_apart}
use Rattle.esto_rows.proofs.keys.Keys.note_again.Goals as goal

pub returns-then-is_code_at-clause-know : goal.returns-then-is_code_at-clause-know
returns-then-is_code_at-clause-know c =
    know_same c.args.self.now c.args.place c.args.code c.args.key.now c.requires (c.is_code_at.ensures c.if-is_code_at.true)

pub returns-clause-know : goal.returns-clause-know
returns-clause-know c = on_ok_weaker c.add.result
    (λ takes. know_apart c.args.self.now c.add.new.self c.args.place c.args.code c.args.key.now c.requires takes)
    c.add.ensures
