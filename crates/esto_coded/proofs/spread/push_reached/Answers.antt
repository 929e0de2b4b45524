use Rattle.std.proofs.lemmas.Result.{on_ok_weaker}
use Rattle.esto_term.proofs.PlaceLemmas.{item_at}
use Rattle.esto_coded.proofs.SpreadLemmas.{columns_more}
use Rattle.esto_coded.proofs.spread.push_reached.Goals as goal

pub returns : goal.returns
returns c = on_ok_weaker c.push.result
    (λ more. columns_more c.args.lead.now c.args.before.now c.args.terms.now c.args.column c.index-terms-column.result c.args.columns.now c.push.new.self
    (item_at c.args.terms.now c.args.column c.index-terms-column.result c.requires c.index-terms-column.is)
    (c.is_reached.ensures c.if-not-is_reached.false) more)
    c.push.ensures.ok
