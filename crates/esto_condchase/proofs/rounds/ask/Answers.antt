use Rattle.std.proofs.Common.{inl, inr, refl}
use Rattle.std.proofs.lemmas.Result.{on_ok_weaker}
use Rattle.esto_condchase.proofs.rounds.ask.Goals as goal

pub returns-then-is_covered : goal.returns-then-is_covered
returns-then-is_covered c = inl (c.is_covered.ensures.0 c.if-is_covered.true, refl)

pub returns : goal.returns
returns c = on_ok_weaker c.put_asked.result (λ is. inr is) c.put_asked.ensures
