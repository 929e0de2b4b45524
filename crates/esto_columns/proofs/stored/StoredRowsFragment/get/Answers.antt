use Rattle.std.proofs.Common.{Contains, subst}
use Rattle.esto_columns.specs.declared.fragment.Input.{Input}
use Rattle.esto_term.proofs.ListLemmas.{Contains-map}
use Rattle.esto_columns.proofs.stored.StoredRowsFragment.get.Goals as goal

pub found-requires : goal.found-requires
found-requires c = λ input inside. c.requires.there input.column
    (Contains-map (λ (it : Input). it.column) c.args.inputs.now input (subst (λ them. Contains them input) c.items.ensures inside))
