use Rattle.std.proofs.Common.{◌+◌, sym, subst}
use Rattle.esto_part_cases.specs.Refusing.{AreOpen}
use Rattle.esto_part_cases.proofs.RefusingLemmas.{one_open_more}
use Rattle.esto_part_cases.proofs.refusing.fragments.Goals as goal

pub fragments-preserved : goal.fragments-preserved
fragments-preserved c =
    subst (AreOpen (c.fragments.number + 1)) (sym c.in_ok-push.ensures.ok)
    (one_open_more c.fragments.number _ _ c.fragments.invariant c.in_ok-stored.ensures)
