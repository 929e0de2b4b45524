use Rattle.std.proofs.Common.{◌≡◌, ◌+◌, length, sym, subst, ◌∙◌, arith}
use Rattle.std.proofs.lemmas.Bool.{false≢true}
use Rattle.esto_backchase.proofs.VisitLemmas.{AreAbsentBelow, absent-none, absent-pushed, absent-stays}
use Rattle.esto_backchase.proofs.search.absent.Goals.{then-not-has+in_ok-push, else-not-has}
use Rattle.esto_backchase.proofs.search.absent.Goals as goal

pub numbers-init : goal.numbers-init
numbers-init c = absent-none c.args.set.now c.new-numbers.result c.new-numbers.ensures

pub numbers-preserved : goal.numbers-preserved
numbers-preserved c = elim c.if-not-has.branch [
  | then-not-has+in_ok-push w ↦ subst (AreAbsentBelow c.args.set.now (c.numbers.number + 1)) (sym (w.numbers-is ∙ w.in_ok-push.ensures.ok))
      (absent-pushed c.args.set.now c.numbers.number c.numbers.numbers c.numbers.invariant (λ has. false≢true (sym w.if-not-has.true ∙ c.has.ensures.1 has)))
  | else-not-has w ↦ subst (AreAbsentBelow c.args.set.now (c.numbers.number + 1)) (sym w.numbers-is)
      (absent-stays c.args.set.now c.numbers.number c.numbers.numbers c.numbers.invariant (c.has.ensures.0 w.if-not-has.false))
]

pub returns : goal.returns
returns c =
    let all : c.numbers.number ≡ length c.args.set.now = omega (arith, c.numbers-test.false, c.numbers.auto.number-end, c.count-number-end.ensures) in
    subst (λ count. AreAbsentBelow c.args.set.now count c.numbers.numbers) all c.numbers.invariant
