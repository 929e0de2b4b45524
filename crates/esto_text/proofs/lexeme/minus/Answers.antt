use Rattle.std.proofs.Common.{◌<◌, ◌≢◌, length, get_or, sym, ◌∙◌, arith}
use Rattle.std.proofs.lemmas.Bool.{eqb-true}
use Rattle.esto_text.proofs.LexemeLemmas.{negative_is}
use Rattle.esto_text.proofs.lexeme.minus.Goals as goal
use Rattle.esto_text.proofs.lexeme.minus.Goals.{else-not-is_empty-via-then-not-is_empty+else-rest-eq62, else-not-is_empty-via-else-not-is_empty}

pub returns-else-digits-eq0 : goal.returns-else-digits-eq0
returns-else-digits-eq0 c =
    let rest = c.args.rest.now in
    let run = c.run_len-digits.ensures in
    let no_arrow : 0 < length rest → get_or rest 0 0 ≢ 62 =
    elim c.else-not-is_empty.branch [
      | else-not-is_empty-via-then-not-is_empty+else-rest-eq62 w ↦ λ lt. w.if-rest-eq62.false
      | else-not-is_empty-via-else-not-is_empty w ↦ λ lt. absurd (omega (arith, eqb-true _ 0 (sym c.is_empty.ensures ∙ w.if-not-is_empty.false)))
    ] in
    negative_is rest _ no_arrow c.if-digits-eq0.false run.in_range run.each run.stops
