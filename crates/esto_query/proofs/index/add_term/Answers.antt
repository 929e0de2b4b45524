use Rattle.std.proofs.lemmas.Result.{on_ok_weaker}
use Rattle.esto_query.proofs.IndexLemmas.{AddsTerms-put}
use Rattle.esto_query.proofs.index.add_term.Goals as goal

pub returns : goal.returns
returns c = on_ok_weaker c.push.result (λ pushed old adds. AddsTerms-put c.args.fact.now c.args.columns.now c.args.names.now c.args.place c.args.column old
    c.args.terms.now.items adds c.item.result.now c.number_of-number.result c.push.new.items.items c.item.ensures c.number_of-number.ensures
    (rw c.key_of-key.ensures at pushed)) c.push.ensures
