use Rattle.std.proofs.Common.{subst}
use Rattle.std.proofs.lemmas.List.{get_or_default, take_all}
use Rattle.esto_known.specs.Added.{IsGrownIn}
use Rattle.esto_known.proofs.CoverLemmas.{grown_none, grown_turn, added_at_counted}
use Rattle.esto_known.proofs.covering.add_in.Goals as goal

pub turns-init : goal.turns-init
turns-init c = record { counted = c.requires.counts; grown = λ rules _. grown_none rules c.args.entries.now c.args.asked.now }

pub turns-preserved : goal.turns-preserved
turns-preserved c = record {
  counted = added_at_counted c.turns.entries c.args.asked.now c.add_at.new.entries _ c.args.count c.requires.asked
      c.in_ok-add_at.ensures c.turns.invariant.counted;
  grown = λ rules follow. grown_turn rules c.args.count c.args.entries.now c.args.asked.now follow c.args.turns.now c.turns.turn-index _
      c.turns-test.true (get_or_default c.args.turns.now c.turns.turn-index _ _ c.turns-test.true) c.turns.entries c.add_at.new.entries
      (c.turns.invariant.grown rules follow) c.in_ok-add_at.ensures;
}

pub returns-clause-grown : goal.returns-clause-grown
returns-clause-grown c rules follow = subst (λ it. IsGrownIn rules c.args.entries.now c.args.asked.now it c.turns.entries)
    (take_all c.turns.turn-index c.args.turns.now c.turns-test.false) (c.turns.invariant.grown rules follow)
