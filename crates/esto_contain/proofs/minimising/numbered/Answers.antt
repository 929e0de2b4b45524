use Rattle.std.proofs.Common.{◌≡◌, ◌+◌, [], get_or, take, sym, subst}
use Rattle.std.proofs.lemmas.List.{take_all}
use Rattle.esto_contain.specs.Numbered.{AreNumbered}
use Rattle.esto_contain.proofs.NumberedLemmas.{numbered_more, numbered_none}
use Rattle.esto_contain.proofs.minimising.numbered.Goals as goal

pub facts-init : goal.facts-init
facts-init c = subst (AreNumbered []) (sym c.new-expanded.ensures) numbered_none

pub facts-preserved : goal.facts-preserved
facts-preserved c =
    subst (AreNumbered (take (c.facts.number + 1) c.args.facts.now)) (sym c.in_ok-push.ensures.ok)
    (numbered_more c.args.facts.now c.facts.number c.in_ok-copy.field-0 c.facts.expanded c.facts-test.true
    (subst (λ it. it ≡ get_or c.args.facts.now c.facts.number it) (sym c.in_ok-copy.ensures) c.index-facts-number.is) c.facts.invariant)

pub returns : goal.returns
returns c = subst (λ its. AreNumbered its c.facts.expanded) (take_all c.facts.number c.args.facts.now c.facts-test.false) c.facts.invariant
