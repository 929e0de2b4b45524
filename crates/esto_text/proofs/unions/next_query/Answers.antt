use Rattle.std.proofs.Common.{◌+◌, ℕ, length, ap, arith}
use Rattle.std.proofs.lemmas.List.{length-append}
use Rattle.esto_text.specs.Limits.{limited}
use Rattle.esto_text.proofs.Languages.{fault_is}
use Rattle.esto_text.proofs.SyntaxLemmas.{left_fits}
use Rattle.esto_text.proofs.unions.next_query.Goals as goal

pub overflow_add-result : goal.overflow_add-result
overflow_add-result c =
    let fits = left_fits c.cut.result.0.now c.in-Err-Syntax.left (rw c.in-Err-Syntax.field-0-is at c.in-Err-Syntax.ensures.err) in
    omega (arith, fits, length-append c.cut.result.0.now c.cut.result.1.now, ap length c.cut.ensures.is)

pub returns-in-Err-Syntax-clause-err : goal.returns-in-Err-Syntax-clause-err
returns-in-Err-Syntax-clause-err c =
    let fails = rw c.in-Err-Syntax.field-0-is at c.in-Err-Syntax.ensures.err in
    record {
      part = c.cut.result.0.now;
      rest = c.cut.result.1.now;
      cut = c.cut.ensures;
      stop = fails.0;
      stops = fault_is (limited c.cut.result.0.now) fails.0 fails.1;
      leaves = ap (λ (n : ℕ). n + length c.cut.result.1.now) fails.2;
    }
