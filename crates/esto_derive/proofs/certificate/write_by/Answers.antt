use Rattle.std.proofs.lemmas.Result.{IfOk-weaker}
use Rattle.esto_derive.proofs.MarkLemmas.{all_below}
use Rattle.esto_derive.proofs.certificate.write_by.Goals as goal

pub of-requires : goal.of-requires
of-requires c = all_below _ c.args.facts.now c.requires.facts

pub returns : goal.returns
returns c =
    IfOk-weaker c.write.result _ _
    (λ bytes writes. (c.close_with.new.used, c.in_ok-close_with.ensures.used c.args.facts.now c.in_ok-used.ensures.has, writes))
    c.write.ensures
