use Rattle.std.proofs.Common.{[], ◌∷◌, subst}
use Rattle.std.proofs.lemmas.Result.{on_ok_weaker}
use Rattle.esto_coded.specs.Spread.{TakesPassing}
use Rattle.esto_coded.proofs.SpreadLemmas.{passing_past}
use Rattle.esto_coded.proofs.spread.take_at.Goals as goal

pub returns-then-not-may_pass : goal.returns-then-not-may_pass
returns-then-not-may_pass c =
    passing_past c.args.columns.now c.args.rows.now.rows c.args.at c.args.set.now c.may_pass.result c.requires c.may_pass.ensures c.if-not-may_pass.true

pub returns : goal.returns
returns c = on_ok_weaker c.take_row.result
    (λ takes. (
      c.read_row.new.codes,
      c.in_ok-read_row.ensures,
      subst (λ it. TakesPassing c.args.columns.now (it ∷ []) c.args.set.now c.take_row.new.set) c.items.ensures takes,
    ))
    c.take_row.ensures
