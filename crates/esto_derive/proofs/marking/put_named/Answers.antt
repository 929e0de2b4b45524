use Rattle.std.proofs.Common.{ℕ, List, Contains, subst, sym}
use Rattle.esto_chase_laws.specs.declared.entry.Reason.{Reason}
use Rattle.esto_derive.specs.Marking.{named_by}
use Rattle.esto_derive.proofs.marking.put_named.Goals as goal

pub put_all-requires : goal.put_all-requires
put_all-requires c = λ place inside.
    c.requires place (subst (λ (it : Reason). Contains (named_by it) place) (sym c.in-Step.is)
    (subst (λ (it : List ℕ). Contains it place) c.items.ensures inside))

pub put_all-requires-in-Equal : goal.put_all-requires-in-Equal
put_all-requires-in-Equal c = λ place inside.
    c.requires place (subst (λ (it : Reason). Contains (named_by it) place) (sym c.in-Equal.is)
    (subst (λ (it : List ℕ). Contains it place) c.items-in-Equal.ensures inside))
