use Rattle.std.proofs.Common.{◌≡◌, ◌++◌, [], ◌∷◌, subst}
use Rattle.std.proofs.lemmas.Result.{on_ok_weaker}
use Rattle.esto_coded.specs.Parted.{kept_facts}
use Rattle.esto_coded.proofs.PartLemmas.{kept_past}
use Rattle.esto_coded.proofs.parted.put_at.Goals as goal

pub returns-then-not-may_have : goal.returns-then-not-may_have
returns-then-not-may_have c =
    kept_past c.args.codes.now c.args.set.now c.args.number c.args.rows.now.rows c.args.at c.args.facts.now c.may_have.result c.requires c.may_have.ensures
    c.if-not-may_have.true

pub returns : goal.returns
returns c = on_ok_weaker c.put_row.result
    (λ is. (
      c.read_row.new.codes,
      c.in_ok-read_row.ensures,
      subst (λ it. c.put_row.new.facts ≡ c.args.facts.now ++ kept_facts c.args.codes.now c.args.set.now c.args.number (it ∷ [])) c.items.ensures is,
    ))
    c.put_row.ensures
