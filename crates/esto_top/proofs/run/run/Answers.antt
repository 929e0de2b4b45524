use Rattle.std.proofs.Common.{arith}
use Rattle.std.proofs.lemmas.Bool.Decides.{nat_tests}
use Rattle.esto_top.proofs.RunAskedLemmas.{more_answers, more_asks, one_answers, one_asks}
use Rattle.esto_top.proofs.run.run.Goals as goal
use Rattle.esto_top.proofs.run.run.Goals.{in_default-via-then-queries-lt1, in_default-via-else-queries-lt1+else-queries-lt2}

pub returns-in_default-clause-answer : goal.returns-in_default-clause-answer
returns-in_default-clause-answer g c =
    more_answers (g.S.Shelf.files c.args.shelf.now) c.args.catalogue.now c.args.number c.run_union.result _ c.args.queries.now
    (λ one. elim c.in_default.branch [
      | in_default-via-then-queries-lt1 w ↦ grind (arith, nat_tests, one)
      | in_default-via-else-queries-lt1+else-queries-lt2 w ↦ grind (arith, nat_tests, one)
    ]) c.run_union.ensures.answer

pub returns-in_default-clause-asked : goal.returns-in_default-clause-asked
returns-in_default-clause-asked g c =
    more_asks (g.S.Shelf.files c.args.shelf.now) c.args.catalogue.now c.args.number c.run_union.result _ _ c.args.queries.now (λ one. elim c.in_default.branch [
      | in_default-via-then-queries-lt1 w ↦ grind (arith, nat_tests, one)
      | in_default-via-else-queries-lt1+else-queries-lt2 w ↦ grind (arith, nat_tests, one)
    ]) c.run_union.ensures.asked

pub returns-in-len1-clause-answer : goal.returns-in-len1-clause-answer
returns-in-len1-clause-answer g c =
    one_answers (g.S.Shelf.files c.args.shelf.now) c.args.catalogue.now c.args.number c.run_query.result _ c.args.queries.now c.query-item.result
    (omega (arith, c.in-len1.len_at_least, c.in-len1.len_below)) c.query-item.is c.run_query.ensures.answer

pub returns-in-len1-clause-asked : goal.returns-in-len1-clause-asked
returns-in-len1-clause-asked g c =
    one_asks (g.S.Shelf.files c.args.shelf.now) c.args.catalogue.now c.args.number c.run_query.result _ _ c.args.queries.now c.query-item.result
    (omega (arith, c.in-len1.len_at_least, c.in-len1.len_below)) c.query-item.is c.run_query.ensures.asked
