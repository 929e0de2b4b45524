use Rattle.esto_mapping.proofs.SoundLemmas.{rules_ranked, ranks_ranked}
use Rattle.esto_mapping.proofs.laws.catalogues_rank_their_rules.Goals as goal

pub returns-clause-within : goal.returns-clause-within
returns-clause-within c it = rules_ranked it

pub returns-clause-ranks : goal.returns-clause-ranks
returns-clause-ranks c it = ranks_ranked it
