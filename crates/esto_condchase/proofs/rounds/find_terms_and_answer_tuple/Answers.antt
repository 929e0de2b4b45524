use Rattle.std.proofs.Common.{ap, ◌∙◌}
use Rattle.esto_semantics.specs.Facts.{terms_of}
use Rattle.esto_chase_laws.specs.Making.{frontier}
use Rattle.esto_condchase.proofs.rounds.find_terms_and_answer_tuple.Goals as goal

pub answer_tuple_at_each_way-requires-clause-from_is : goal.answer_tuple_at_each_way-requires-clause-from_is
answer_tuple_at_each_way-requires-clause-from_is c = c.in_ok-from.ensures ∙ ap terms_of c.items.ensures

pub answer_tuple_at_each_way-requires-clause-shared_is : goal.answer_tuple_at_each_way-requires-clause-shared_is
answer_tuple_at_each_way-requires-clause-shared_is c = c.in_ok-shared.ensures ∙ (λ i. frontier (c.items-2.ensures i) (c.items-3.ensures i))
