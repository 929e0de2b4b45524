use Rattle.std.proofs.Common.{◌≢◌}
use Rattle.esto_term.proofs.ListLemmas.{HoldsBelow}
use Rattle.esto_exec.specs.Slots.{side_of}
use Rattle.esto_exec.specs.declared.slots.Side.TheVariants.{Nothing}
use Rattle.esto_exec.proofs.asked.each_names.Given as goal

abbrev pub invariant-links : goal.invariant-links
invariant-links l = HoldsBelow (λ _ link. side_of l.arities link.source ≢ Nothing) l.link-items l.link-index
