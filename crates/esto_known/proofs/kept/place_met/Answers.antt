use Rattle.std.proofs.Common.{sym, ◌∙◌}
use Rattle.std.proofs.lemmas.Bool.{false≢true}
use Rattle.esto_known.proofs.TellLemmas.{some_met}
use Rattle.esto_known.proofs.kept.place_met.Goals as goal

pub returns : goal.returns
returns c = some_met c.args.from.now c.args.term.now c.first_place.result
    (λ is. false≢true (sym c.if-is_constant.false ∙ c.is_constant.ensures.1 is)) c.first_place.ensures
