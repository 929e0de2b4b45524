use Rattle.esto_semantics.proofs.AccessLawLemmas.{numbers_are_stated, rewritings_need_no_order}
use Rattle.esto_semantics.proofs.access.rewritings_without_inputs.Goals as goal

pub returns : goal.returns
returns c = record { stated = numbers_are_stated; rewritings = rewritings_need_no_order }
