use Rattle.std.proofs.Common.{arith, ◌≡◌, ◌*◌, ℕ, subst}
use Rattle.esto_bench.specs.Made.{AreOpenedBelow}
use Rattle.esto_bench.proofs.rows.made_opened.Goals as goal

-- src/rows.rt:90:1
pub returns : goal.returns
returns c =
    let all : c.fragments.number ≡ 2 * c.args.size = omega (arith, c.fragments-test.false, c.fragments.auto.number-end) in
    subst (λ (it : ℕ). AreOpenedBelow c.args.catalogue.now it c.fragments.opened) all c.fragments.invariant
