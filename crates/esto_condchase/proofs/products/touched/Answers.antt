use Rattle.std.proofs.Common.{subst}
use Rattle.std.proofs.lemmas.Result.{IfOk-weaker}
use Rattle.esto_term.specs.Sets.{Has}
use Rattle.esto_term.proofs.SetLemmas.{none_has}
use Rattle.esto_condchase.proofs.products.touched.Goals as goal

pub returns-clause-count : goal.returns-clause-count
returns-clause-count c = c.touching.ensures.count

pub returns-clause-covers : goal.returns-clause-covers
returns-clause-covers c = IfOk-weaker c.touching.result _ _ (λ by touches set. (
  λ covers. ((touches set).0 covers).1,
  λ row. (touches set).1 (
    (c.in_ok-start.ensures.covers set).1 (λ number has. absurd (none_has c.args.count number (subst (λ it. Has it number) c.in_ok-none.ensures has))),
    row,
  ),
)) c.touching.ensures.covers
