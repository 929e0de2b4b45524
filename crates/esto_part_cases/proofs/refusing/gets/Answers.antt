use Rattle.std.proofs.Common.{◌+◌, refl, sym, subst, arith}
use Rattle.esto_part_cases.specs.Refusing.{AskEach}
use Rattle.esto_part_cases.proofs.refusing.gets.Goals as goal
use Rattle.esto_part_cases.proofs.RefusingLemmas.{one_more}

pub fragments-preserved : goal.fragments-preserved
fragments-preserved c =
    subst (λ gets. AskEach (c.fragments.fragment + 1) gets) (sym c.in_ok-push.ensures.ok)
    (one_more c.fragments.fragment _ _ c.fragments.invariant refl c.in_ok-inputs.ensures)

pub returns : goal.returns
returns c = λ get there.
    let asked = c.fragments.invariant get there in
    (omega (arith, asked.0, c.fragments.auto.fragment-end, c.fragments-test.false), asked.1)
