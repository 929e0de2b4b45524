use Rattle.std.proofs.Common.{◌≡◌, [], drop}
use Rattle.esto_views.specs.Names.{met_atoms}
use Rattle.esto_list.proofs.text.nameless_variables.Given as goal

abbrev pub invariant-atoms : goal.invariant-atoms
invariant-atoms l = met_atoms l.plan.names l.met (drop l.atom-index l.atom-items) ≡ met_atoms l.plan.names [] l.atom-items
