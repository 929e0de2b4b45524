use Rattle.std.proofs.Common.{Contains, subst}
use Rattle.esto_constraint.specs.Constraints.{rules_of}
use Rattle.esto_term.proofs.ListLemmas.{Contains-nil}
use Rattle.esto_term.proofs.PlaceLemmas.{item_at}
use Rattle.esto_fill.proofs.lawful.laws_of.Goals as goal

pub datasets-init : goal.datasets-init
datasets-init c rule inside = absurd (Contains-nil rule (subst (λ those. Contains (rules_of those) rule) c.new-rules.ensures inside))

pub add_laws-requires : goal.add_laws-requires
add_laws-requires c = item_at c.args.datasets.now c.datasets.number c.index-datasets-number.result c.datasets-test.true c.index-datasets-number.is

pub datasets-preserved : goal.datasets-preserved
datasets-preserved c = c.in_ok-add_laws.ensures c.datasets.invariant
