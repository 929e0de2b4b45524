use Rattle.esto_term.proofs.SetLemmas.{set_cmp_total, equal_is_same, numbers_tell, within_same, order_is_one}
use Rattle.esto_term.proofs.sets.sets_are_ordered.Goals as goal

pub returns : goal.returns
returns c = record { total = set_cmp_total; exact = equal_is_same; numbers = numbers_tell; within = within_same; one = order_is_one }
