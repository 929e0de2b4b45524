use Rattle.std.proofs.Common.{◌+◌, List, length, slice_range, sym, subst}
use Rattle.std.proofs.lemmas.Result.{IfOk-weaker}
use Rattle.esto_semantics.specs.declared.fact.Fact.{Fact}
use Rattle.esto_term.specs.declared.term.Term.{Term}
use Rattle.esto_condchase.specs.Products.{AreReachedOf, IsFirst}
use Rattle.esto_condchase.proofs.WayLemmas.{rest_after}
use Rattle.esto_condchase.proofs.ReachLemmas.{led_first, led_turn, led_all}
use Rattle.esto_condchase.proofs.products.products_among.Goals as goal

pub atoms-init : goal.atoms-init
atoms-init c = record {
  led = λ entries are_groups joined. led_first entries c.args.groups.now are_groups c.args.head.now c.args.body.now c.args.targets.now c.requires.heads joined
      c.in_ok-from.from c.in_ok-ones.ones c.in_ok-from.ensures
      (subst (λ it. IsFirst c.args.groups.now it c.args.targets.now c.in_ok-ones.ones) c.items.ensures c.in_ok-ones.ensures.first);
  counted = c.in_ok-ones.ensures.counted;
}

pub atoms-preserved : goal.atoms-preserved
atoms-preserved c =
    let rest : List (Fact Term) = slice_range c.args.body.now (c.atoms.place + 1) (length c.args.body.now) in record {
      led = λ entries are_groups joined. led_turn entries c.args.groups.now are_groups c.args.head.now c.args.body.now c.args.targets.now c.atoms.place
          c.index-body-place.result rest c.atoms.from c.atoms.ones c.go_on.new.from c.go_on.new.ones c.atoms-test.true c.index-body-place.is
          (rest_after c.args.body.now c.atoms.place c.atoms-test.true) (c.atoms.invariant.led entries are_groups joined) c.in_ok-go_on.ensures.next;
      counted = c.in_ok-go_on.ensures.counted;
    }

pub sets_of_all-requires : goal.sets_of_all-requires
sets_of_all-requires c = subst (AreReachedOf c.args.count) (sym c.items-2.ensures) c.atoms.invariant.counted

pub returns-clause-tell : goal.returns-clause-tell
returns-clause-tell c =
    IfOk-weaker c.sets_of_all.result _ _ (λ found exact entries are_groups joined.
    led_all entries c.args.head.now c.args.body.now c.args.targets.now c.atoms.place c.atoms.from c.atoms.ones c.items-2.result.now found.sets
    c.atoms-test.false c.items-2.ensures (c.atoms.invariant.led entries are_groups joined) exact) c.sets_of_all.ensures.exact
