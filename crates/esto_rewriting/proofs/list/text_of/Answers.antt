use Rattle.std.proofs.Common.{refl, subst}
use Rattle.esto_course.specs.Course.{judges}
use Rattle.esto_course.specs.Course.Stops.{refused}
use Rattle.esto_rewriting.specs.List.{IsUnionText}
use Rattle.esto_rewriting.proofs.list.text_of.Goals as goal

pub returns-in-Some : goal.returns-in-Some
unfolding judges
returns-in-Some c =
    let at = rw c.in-Some.is at c.in_ok-clash.ensures in
    refused (record { cause = tt }) (c.in-Some.clash, at, refl)

pub returns-in_ok-text-in-None : goal.returns-in_ok-text-in-None
unfolding judges
returns-in_ok-text-in-None c =
    let some = rw c.in-None.is at c.in_ok-clash.ensures in
    (some, subst (λ it. IsUnionText c.args.catalogue.now it c.in_ok-text-in-None.text) c.items.ensures c.in_ok-text-in-None.ensures)
