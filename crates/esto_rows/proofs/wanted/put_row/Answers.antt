use Rattle.std.proofs.Common.{sym, ◌∙◌}
use Rattle.std.proofs.lemmas.Bool.{false≢true}
use Rattle.std.proofs.lemmas.Result.{on_ok_weaker}
use Rattle.esto_rows.proofs.wanted.put_row.Goals as goal

pub returns-then-not-is_wanted : goal.returns-then-not-is_wanted
returns-then-not-is_wanted c = record {
  here = λ wanted. absurd (false≢true (sym c.if-not-is_wanted.true ∙ c.is_wanted.ensures wanted));
  stay = λ other among. among;
}

pub returns : goal.returns
returns c = on_ok_weaker c.add_all.result (λ takes. record { here = λ wanted. takes.here; stay = takes.stay }) c.add_all.ensures
