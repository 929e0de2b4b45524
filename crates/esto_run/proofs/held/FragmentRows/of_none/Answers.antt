use Rattle.esto_run.proofs.HeldLemmas.{none_have_texts}
use Rattle.esto_run.proofs.held.FragmentRows.of_none.Goals as goal

pub invariant_of-result : goal.invariant_of-result
invariant_of-result c = none_have_texts _ c.args.stored c.requires
