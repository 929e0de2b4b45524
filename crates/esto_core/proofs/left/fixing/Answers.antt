use Rattle.std.proofs.Common.{refl, subst, take}
use Rattle.std.proofs.lemmas.List.{take_all}
use Rattle.esto_term.proofs.ListLemmas.{Contains-read}
use Rattle.esto_core.specs.Left.{IsFixing}
use Rattle.esto_core.proofs.FixingLemmas.{fixing-none, fixing-next}
use Rattle.esto_core.proofs.left.fixing.Goals as goal

pub terms-init : goal.terms-init
terms-init c = fixing-none _ c.new-start.result refl c.new-start.ensures

pub fix-requires : goal.fix-requires
fix-requires c = c.requires c.term-item.result (Contains-read c.args.terms.now c.terms.term-index c.term-item.result c.terms-test.true c.term-item.is)

pub terms-preserved : goal.terms-preserved
terms-preserved c =
    fixing-next c.args.terms.now c.terms.term-index c.term-item.result c.fix.new.start c.terms-test.true c.term-item.is
    (c.in_ok-fix.ensures (take c.terms.term-index c.args.terms.now) c.terms.invariant)

pub returns : goal.returns
returns c = subst (λ terms. IsFixing terms c.terms.start) (take_all c.terms.term-index c.args.terms.now c.terms-test.false) c.terms.invariant
