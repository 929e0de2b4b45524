use Rattle.std.proofs.Common.{arith}
use Rattle.std.proofs.lemmas.Bool.Decides.{nat_tests}
use Rattle.esto_top.proofs.ListCourseLemmas.{more_listed}
use Rattle.esto_top.proofs.list.listed_queries.Goals as goal
use Rattle.esto_top.proofs.list.listed_queries.Goals.{in_default-via-then-queries-lt1, in_default-via-else-queries-lt1+else-queries-lt2}

pub returns-in_default : goal.returns-in_default
returns-in_default c =
    more_listed c.args.catalogue.now c.args.queries.now c.list_union.result (λ one. elim c.in_default.branch [
      | in_default-via-then-queries-lt1 w ↦ grind (arith, nat_tests, one)
      | in_default-via-else-queries-lt1+else-queries-lt2 w ↦ grind (arith, nat_tests, one)
    ]) c.list_union.ensures
