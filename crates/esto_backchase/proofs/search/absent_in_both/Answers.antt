use Rattle.std.proofs.lemmas.Result.{IfOk-weaker}
use Rattle.esto_backchase.proofs.VisitLemmas.{absent-both}
use Rattle.esto_backchase.proofs.search.absent_in_both.Goals as goal

pub returns : goal.returns
returns c = IfOk-weaker c.absent.result _ _
    (λ numbers absent. absent-both c.args.set.now c.in_ok-either.either c.args.other.now c.union.new.self numbers c.in_ok-either.ensures
    c.union.ensures.count c.union.ensures.has absent) c.absent.ensures
