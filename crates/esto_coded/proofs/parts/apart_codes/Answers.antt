use Rattle.std.proofs.lemmas.Result.{IfOk-weaker}
use Rattle.esto_rows.proofs.WantedLemmas.{apart_told}
use Rattle.esto_coded.proofs.parts.apart_codes.Goals as goal

pub returns : goal.returns
returns c = IfOk-weaker c.wanted_codes.result _ _
    (λ set have. apart_told c.args.width c.in_ok-keys.keys c.args.rows.now.rows set c.in_ok-keys.ensures have)
    c.wanted_codes.ensures
