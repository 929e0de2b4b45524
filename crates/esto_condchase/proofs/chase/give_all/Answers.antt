use Rattle.esto_term.proofs.ListLemmas.{Contains-at}
use Rattle.esto_term.proofs.PlaceLemmas.{item_at}
use Rattle.esto_condchase.proofs.LoopLemmas.{given_none, given_entry, given_all}
use Rattle.esto_condchase.proofs.chase.give_all.Goals as goal

pub facts-init : goal.facts-init
facts-init c = given_none c.args.facts.now c.args.atoms c.args.entries.now c.requires.none

pub give-requires-clause-atom : goal.give-requires-clause-atom
give-requires-clause-atom c = c.requires.atoms c.fact-item.result (Contains-at c.args.facts.now c.facts.fact-index c.fact-item.result
    (item_at c.args.facts.now c.facts.fact-index c.fact-item.result c.facts-test.true c.fact-item.is))

pub give-requires-clause-counts : goal.give-requires-clause-counts
give-requires-clause-counts c = c.facts.invariant.counted

pub facts-preserved : goal.facts-preserved
facts-preserved c =
    let (entry, its, counted, added) = c.in_ok-give.ensures in
    given_entry c.args.facts.now c.args.atoms c.facts.fact-index c.fact-item.result c.facts.entries c.give.new.entries entry c.facts-test.true
    c.fact-item.is counted its added c.facts.invariant

pub returns : goal.returns
returns c = record {
  derived = c.facts.invariant.derived;
  new = c.facts.invariant.new;
  counted = c.facts.invariant.counted;
  given = given_all c.args.facts.now c.facts.fact-index c.facts.entries c.facts-test.false c.facts.invariant.given;
}
