use Rattle.std.proofs.Common.{◌++◌, take, sym, subst}
use Rattle.std.proofs.lemmas.List.{take_all}
use Rattle.esto_term.proofs.ListLemmas.{Contains-read}
use Rattle.esto_term.proofs.PlaceLemmas.{take-item}
use Rattle.esto_chase_laws.specs.Worlds.{AreOfCount}
use Rattle.esto_condchase.specs.Ways.{IsTold}
use Rattle.esto_known.specs.KeptWays.{AreCounted}
use Rattle.esto_condchase.proofs.StepLemmas.{LongerSoFar, longer_none, longer_turn, longer_end}
use Rattle.esto_condchase.proofs.passing.all_longer.Goals as goal

pub given-init : goal.given-init
given-init c = longer_none c.args.step.now.known.now c.args.own.now c.args.goal.now c.args.floor _ _ c.new-next.ensures

pub longer-requires-clause-links : goal.longer-requires-clause-links
longer-requires-clause-links c = c.links_of-links.ensures

pub longer-requires-clause-counts : goal.longer-requires-clause-counts
longer-requires-clause-counts c = subst (λ n. AreOfCount n c.args.step.now.known.now) (sym (c.requires.given c.before-item.result
    (Contains-read c.args.given.now c.given.before-index c.before-item.result c.given-test.true c.before-item.is))) c.requires.counts

pub longer-requires-clause-counted : goal.longer-requires-clause-counted
longer-requires-clause-counted c = subst (λ n. AreCounted n c.args.kept.now) (sym (c.requires.given c.before-item.result
    (Contains-read c.args.given.now c.given.before-index c.before-item.result c.given-test.true c.before-item.is))) c.requires.counted

pub given-preserved : goal.given-preserved
given-preserved c = rw (take-item c.args.given.now c.given.before-index c.before-item.result c.given-test.true c.before-item.is)
    (longer_turn c.args.step.now.known.now c.args.own.now c.args.goal.now c.args.floor
    (IsTold c.args.step.now.known.now c.args.step.now.sides c.args.step.now.places.now c.args.kept.now (c.args.step.now.to.now ++ c.args.step.now.owns.now))
    (take c.given.before-index c.args.given.now)
    c.given.next c.longer.new.next c.before-item.result c.given.invariant c.in_ok-longer.ensures.grown c.in_ok-longer.ensures.goes)

pub returns : goal.returns
returns c = longer_end c.args.step.now.known.now c.args.own.now c.args.goal.now c.args.floor
    (IsTold c.args.step.now.known.now c.args.step.now.sides c.args.step.now.places.now c.args.kept.now (c.args.step.now.to.now ++ c.args.step.now.owns.now))
    c.args.given.now c.given.next c.requires.apart (subst (λ it. LongerSoFar c.args.step.now.known.now c.args.own.now c.args.goal.now c.args.floor
    (IsTold c.args.step.now.known.now c.args.step.now.sides c.args.step.now.places.now c.args.kept.now (c.args.step.now.to.now ++ c.args.step.now.owns.now)) it
    c.given.next) (take_all c.given.before-index c.args.given.now c.given-test.false) c.given.invariant)
