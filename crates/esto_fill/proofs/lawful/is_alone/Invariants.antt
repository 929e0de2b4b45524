use Rattle.std.proofs.Common.{◌≡◌}
use Rattle.esto_mapping.specs.declared.dataset.Dataset.{Dataset}
use Rattle.esto_term.proofs.ListLemmas.{HoldsBelow}
use Rattle.esto_fill.specs.Lawful.{HaveNoneInCommon}
use Rattle.esto_fill.proofs.lawful.is_alone.Given as goal

-- none of the datasets so far has a relation of it, but that of the number
abbrev pub invariant-datasets : goal.invariant-datasets
invariant-datasets l = HoldsBelow (λ other (its : Dataset). (other ≡ l.fn.number → ⊥) → HaveNoneInCommon l.dataset its) l.datasets l.other
