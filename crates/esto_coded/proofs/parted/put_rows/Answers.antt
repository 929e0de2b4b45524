use Rattle.std.proofs.Common.{◌++◌, sym, ap, ◌∙◌, arith}
use Rattle.std.proofs.lemmas.List.{append-nil, take_all}
use Rattle.esto_coded.specs.Parted.{kept_facts}
use Rattle.esto_coded.proofs.PartLemmas.{kept_more}
use Rattle.esto_coded.proofs.parted.put_rows.Goals as goal

pub rows-init : goal.rows-init
rows-init c = sym (append-nil c.args.facts.now)

pub rows-preserved : goal.rows-preserved
rows-preserved c = kept_more c.args.codes.now c.args.set.now c.args.number c.args.rows.now.rows c.rows.at c.args.facts.now c.rows.facts c.put_at.new.facts
    c.rows.invariant c.in_ok-put_at.ensures

pub returns : goal.returns
returns c = c.rows.invariant ∙ ap (λ them. c.args.facts.now ++ kept_facts c.args.codes.now c.args.set.now c.args.number them)
    (take_all c.rows.at c.args.rows.now.rows (let past = c.rows-test.false in let count = c.len-at-end.ensures in omega (arith, past, count)))
