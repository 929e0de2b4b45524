use Rattle.std.proofs.Common.{[], ◌∷◌, subst}
use Rattle.esto_rows.specs.Wanted.{TakesIn}
use Rattle.esto_rows.proofs.WantedLemmas.{takes_one}
use Rattle.esto_rows.proofs.code_set.CodeSet.add.Goals as goal

pub returns : goal.returns
returns c = subst (λ old. TakesIn (c.args.code ∷ []) old c.insert.new.self.keys) c.self.view_is
    (takes_one c.args.code c.self.inside.codes.keys c.insert.new.self.keys (λ other. c.in-Ok.ensures.updates.0 other))
