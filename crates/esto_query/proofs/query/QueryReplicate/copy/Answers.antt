use Rattle.esto_query.proofs.SoundLemmas.{same_query}
use Rattle.esto_query.proofs.query.QueryReplicate.copy.Goals as goal

pub invariant_of-result : goal.invariant_of-result
invariant_of-result c = record { sound = rw (c.in_ok-copy.ensures, c.in_ok-copy-2.ensures, c.in_ok-copy-3.ensures) c.args.self.now.sound }

pub returns : goal.returns
returns c = same_query _ c.args.self.now c.in_ok-copy.ensures c.in_ok-copy-2.ensures c.in_ok-copy-3.ensures
