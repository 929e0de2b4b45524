use Rattle.esto_semantics.proofs.SpreadLemmas.{an_expansion}
use Rattle.esto_semantics.proofs.expansions.queries_over_fragments_have_expansions.Goals as goal

pub returns : goal.returns
returns c = an_expansion
