use Rattle.std.proofs.lemmas.Option.{IfSome_then}
use Rattle.esto_coded.proofs.coded.CodedFacts.mirrored_part.Goals as goal

pub returns : goal.returns
returns c = IfSome_then c.spread_part.result c.spread_part.ensures (λ part is. (c.in-Ok.seed, rw c.in-Ok.is at c.apart_codes.ensures, is))
