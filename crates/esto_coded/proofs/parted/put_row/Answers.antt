use Rattle.std.proofs.Common.{sym, ◌∙◌}
use Rattle.std.proofs.lemmas.Result.{on_ok_weaker}
use Rattle.esto_coded.proofs.PartLemmas.{kept_none, kept_one}
use Rattle.esto_coded.proofs.parted.put_row.Goals as goal

pub returns-then-not-has_all : goal.returns-then-not-has_all
returns-then-not-has_all c =
    kept_none c.args.codes.now c.args.set.now c.args.number c.args.row.now c.args.facts.now (sym c.has_all.ensures ∙ c.if-not-has_all.true)

pub returns : goal.returns
returns c = on_ok_weaker c.push.result
    (λ is. is ∙ kept_one c.args.codes.now c.args.set.now c.args.number c.args.row.now c.args.facts.now c.in_ok-terms.terms
    (sym c.has_all.ensures ∙ c.if-not-has_all.false) c.in_ok-terms.ensures)
    c.push.ensures.ok
