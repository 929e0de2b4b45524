use Rattle.std.proofs.Common.{ap, set}
use Rattle.esto_term.proofs.values.Values.set.Goals as goal

pub returns : goal.returns
returns g c = ap (λ values. set values c.args.at c.args.value) c.self.view_is
