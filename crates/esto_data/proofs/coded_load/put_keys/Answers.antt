use Rattle.std.proofs.Common.{◌∙◌, sym}
use Rattle.esto_data.proofs.CodedLoadLemmas.{keys_left, keys_put}
use Rattle.esto_data.proofs.coded_load.put_keys.Goals as goal

pub returns-then-has : goal.returns-then-has
returns-then-has c =
    keys_put c.args.dataset.now c.args.wanted.now c.args.bytes.now c.args.coded.now _ (sym c.has.ensures ∙ c.if-has.true) c.put_key_rows.result
    c.put_key_rows.ensures

pub returns : goal.returns
returns c =
    keys_left c.args.dataset.now c.args.wanted.now c.args.bytes.now c.args.coded.now (sym c.has.ensures ∙ c.if-has.false)
    c.in_ok-open_keys.ensures.0
