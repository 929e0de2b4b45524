use Rattle.std.proofs.Common.{◌++◌, ◌∙◌, subst, arith, refl}
use Rattle.esto_term.proofs.ListLemmas.{thing_at}
use Rattle.esto_condchase.specs.Ways.{AreLonger, IsTold, meets}
use Rattle.esto_condchase.proofs.StepLemmas.{supports_none, supports_turn, supports_end}
use Rattle.esto_condchase.proofs.passing.through_row.Goals as goal

pub row-init : goal.row-init
row-init c = supports_none c.args.step.now.known.now (meets c.args.step.now.from.now c.args.step.now.terms.now c.args.step.now.to.now c.args.step.now.owns.now)
    c.args.step.now.terms.now c.args.step.now.owns.now c.args.at c.args.floor _ c.args.start c.args.start _ refl c.in_ok-supports.ensures

pub pass_term-requires-clause-given : goal.pass_term-requires-clause-given
pass_term-requires-clause-given c support inside = (c.row.invariant.come support inside).count ∙ c.requires.count

pub row-preserved : goal.row-preserved
row-preserved c =
    let own = thing_at c.args.step.now.owns.now c.row.index c.row-test.true in
    let term = thing_at c.args.step.now.terms.now c.row.index (let below = c.row-test.true in omega (arith, below, c.requires.rows)) in
    supports_turn c.args.step.now.known.now (meets c.args.step.now.from.now c.args.step.now.terms.now c.args.step.now.to.now c.args.step.now.owns.now)
    c.args.step.now.terms.now c.args.step.now.owns.now c.args.at c.args.floor
    (IsTold c.args.step.now.known.now c.args.step.now.sides c.args.step.now.places.now c.args.kept.now (c.args.step.now.to.now ++ c.args.step.now.owns.now))
    c.args.start c.row.index c.row.supports c.pass_term.new.supports own.0 term.0 own.1 term.1 c.row.invariant
    (subst (λ n. AreLonger c.args.step.now.known.now own.0 (meets c.args.step.now.from.now c.args.step.now.terms.now c.args.step.now.to.now
    c.args.step.now.owns.now term.0) n
    (IsTold c.args.step.now.known.now c.args.step.now.sides c.args.step.now.places.now c.args.kept.now (c.args.step.now.to.now ++ c.args.step.now.owns.now))
    c.row.supports c.pass_term.new.supports) c.floor_of.ensures (c.in_ok-pass_term.ensures own.0 term.0 own.1 term.1))

pub returns : goal.returns
returns c = supports_end c.args.step.now.known.now (meets c.args.step.now.from.now c.args.step.now.terms.now c.args.step.now.to.now c.args.step.now.owns.now)
    c.args.step.now.terms.now c.args.step.now.owns.now c.args.at c.args.floor
    (IsTold c.args.step.now.known.now c.args.step.now.sides c.args.step.now.places.now c.args.kept.now (c.args.step.now.to.now ++ c.args.step.now.owns.now))
    c.args.start c.row.index c.row.supports c.row-test.false c.row.invariant
