use Rattle.esto_semantics.proofs.FactLemmas.{Sends-match}
use Rattle.esto_query.proofs.MatchLemmas.{match-Sends}
use Rattle.esto_query.proofs.matches.matches_send.Goals as goal

pub returns : goal.returns
returns c m body facts = (match-Sends m body facts, λ match. Sends-match m body facts match.0 match.1)
