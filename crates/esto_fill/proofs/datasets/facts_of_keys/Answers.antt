use Rattle.esto_fill.proofs.FileLemmas.{keys_give}
use Rattle.esto_fill.proofs.datasets.facts_of_keys.Goals as goal

pub returns : goal.returns
returns c =
    keys_give c.args.dataset.now c.args.wanted.now c.args.bytes.now c.args.first c.in_ok-rows.rows c.in_ok-facts.facts c.if_wanted.result
    c.in_ok-facts.ensures c.if_wanted.ensures.kept c.if_wanted.ensures.none c.in_ok-rows.ensures
