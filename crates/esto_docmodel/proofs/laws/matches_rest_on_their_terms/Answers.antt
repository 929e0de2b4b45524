use Rattle.esto_docmodel.proofs.ExtendingLemmas.{matches_on}
use Rattle.esto_docmodel.proofs.MatchLemmas.{matched_text}
use Rattle.esto_docmodel.proofs.laws.matches_rest_on_their_terms.Goals as goal

pub returns-clause-texts : goal.returns-clause-texts
returns-clause-texts c m entries start term matches said = matched_text m entries start term matches said

pub returns-clause-agree : goal.returns-clause-agree
returns-clause-agree c m other entries start agree matches = matches_on m other entries start agree matches
