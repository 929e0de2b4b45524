use Rattle.std.proofs.Common.{subst, sym, arith}
use Rattle.std.proofs.lemmas.Result.{IfOk-weaker}
use Rattle.esto_query.specs.Searches.{Follows}
use Rattle.esto_query.proofs.PlaceLemmas.{Follows-shorter, Follows-raised}
use Rattle.esto_query.proofs.matches.places_after.Goals as goal

pub returns-then-after-count : goal.returns-then-after-count
returns-then-after-count c =
    IfOk-weaker c.from_slice.result _ _ (λ from same. subst (Follows c.args.after.now c.args.count c.args.bound) (sym same)
    (Follows-shorter c.args.after.now c.args.count c.args.bound c.if-after-count.true)) c.from_slice.ensures

pub returns : goal.returns
returns c =
    Follows-raised c.args.after.now c.set.new.self c.args.count c.args.bound c.requires (omega (arith, c.if-after-count.false)) c.ranges.bound.fits
    (rw (c.in_ok-from.ensures, c.saturating_add.ensures) at c.set.ensures)
