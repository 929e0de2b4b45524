use Rattle.std.proofs.Common.{◌++◌, ◌∷◌, [], Some, sym, subst}
use Rattle.esto_rewriting.specs.Picking.{IsLeast}
use Rattle.esto_rewriting.specs.declared.members.Member.{Member}
use Rattle.esto_rewriting.proofs.PickingLemmas.{clashed_least, planned_least}
use Rattle.esto_rewriting.proofs.picking.least_with.Goals as goal

pub returns-in-Planned : goal.returns-in-Planned
returns-in-Planned c = λ members is.
    subst (λ (it : Member). IsLeast (members ++ it ∷ []) (Some c.lesser.result)) (sym c.in-Planned.is)
    (planned_least members c.in-Planned.field-0 c.in-Planned.listing c.args.least c.len.result c.lesser.result c.len.ensures c.lesser.ensures is)

pub returns-in-Clashed : goal.returns-in-Clashed
returns-in-Clashed c = λ members is.
    subst (λ (it : Member). IsLeast (members ++ it ∷ []) c.args.least) (sym c.in-Clashed.is) (clashed_least members c.in-Clashed.field-0 c.args.least is)
