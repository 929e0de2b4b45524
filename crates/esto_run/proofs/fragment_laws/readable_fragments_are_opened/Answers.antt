use Rattle.esto_run.proofs.ReadableLemmas.{opened_are_readable, readable_are_opened}
use Rattle.esto_run.proofs.fragment_laws.readable_fragments_are_opened.Goals as goal

pub returns-clause-opened : goal.returns-clause-opened
returns-clause-opened c = opened_are_readable

pub returns-clause-readable : goal.returns-clause-readable
returns-clause-readable c = readable_are_opened
