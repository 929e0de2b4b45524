use Rattle.std.proofs.Common.{List, Bool, sym, ◌∙◌}
use Rattle.esto_term.specs.Sets.{Covers}
use Rattle.esto_term.proofs.ListLemmas.{Contains-read}
use Rattle.esto_condchase.proofs.SumLemmas.{gathers_more, gathers_all}
use Rattle.esto_condchase.specs.declared.reached.Reached.{Reached}
use Rattle.esto_condchase.proofs.reached.sets_of_all.Goals as goal

pub add_all-requires : goal.add_all-requires
add_all-requires c = c.requires c.one-item.result (Contains-read c.args.ones.now c.ones.one-index c.one-item.result c.ones-test.true c.one-item.is)
    ∙ sym c.ones.invariant.count

pub ones-preserved : goal.ones-preserved
ones-preserved c = record {
  count = c.in_ok-add_all.ensures.count ∙ c.ones.invariant.count;
  gathers = gathers_more (λ (set : List Bool) (one : Reached). Covers one.by.sets set) c.args.ones.now c.ones.one-index c.one-item.result
      (λ set. Covers c.ones.sets.sets set) (λ set. Covers c.add_all.new.self.sets set) c.ones-test.true c.one-item.is c.ones.invariant.gathers
      c.in_ok-add_all.ensures.covers;
}

pub returns-clause-exact : goal.returns-clause-exact
returns-clause-exact c =
    gathers_all (λ (set : List Bool) (one : Reached). Covers one.by.sets set) c.args.ones.now c.ones.one-index (λ set. Covers c.ones.sets.sets set)
    c.ones-test.false c.ones.invariant.gathers
