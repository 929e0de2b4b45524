use Rattle.std.proofs.Common.{List, ℕ, [], ◌∷◌, take, get_or, subst, sym, arith}
use Rattle.std.proofs.lemmas.List.{take_more, take_all}
use Rattle.esto_derive.specs.Writing.{AddsNew}
use Rattle.esto_derive.proofs.LoopLemmas.{adds_then}
use Rattle.esto_derive.proofs.lines.push_all_new.Goals as goal

pub more-preserved : goal.more-preserved
more-preserved c =
    subst (λ (it : List ℕ). AddsNew c.args.numbers.now it c.push_new.new.numbers)
    (sym (take_more c.args.more.now c.more.number-index 0 c.more-test.true))
    (adds_then c.args.numbers.now (take c.more.number-index c.args.more.now) c.more.numbers (get_or c.args.more.now c.more.number-index 0 ∷ [])
    c.push_new.new.numbers c.more.invariant c.in_ok-push_new.ensures)

pub returns : goal.returns
returns c =
    subst (λ (it : List ℕ). AddsNew c.args.numbers.now it c.more.numbers)
    (take_all c.more.number-index c.args.more.now (omega (arith, c.more-test.false))) c.more.invariant
