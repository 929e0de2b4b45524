use Rattle.std.proofs.Common.{length, sym, subst}
use Rattle.esto_known.specs.Turns.{AreTurnsOf}
use Rattle.std.proofs.lemmas.Result.{on_ok_weaker}
use Rattle.esto_known.proofs.CoverLemmas.{grown_all}
use Rattle.esto_known.proofs.covering.add_all.Goals as goal

pub returns-clause-grown : goal.returns-clause-grown
returns-clause-grown c = on_ok_weaker c.add_in.result (λ grown rules follow. grown_all rules c.args.entries.now c.args.asked.now
    c.as_slice.result.now c.add_in.new.entries
    (subst (AreTurnsOf (length c.args.asked.now)) (sym c.as_slice.ensures.value) c.in_ok-turns.ensures) (grown rules follow)) c.add_in.ensures.grown
