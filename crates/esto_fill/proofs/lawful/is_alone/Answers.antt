use Rattle.std.proofs.Common.{◌≡◌}
use Rattle.esto_mapping.specs.declared.dataset.Dataset.{Dataset}
use Rattle.esto_term.proofs.ListLemmas.{holds_all, holds_more}
use Rattle.esto_fill.specs.Lawful.{HaveNoneInCommon}
use Rattle.esto_fill.proofs.lawful.is_alone.Goals as goal

pub datasets-preserved : goal.datasets-preserved
datasets-preserved c =
    holds_more (λ other (its : Dataset). (other ≡ c.args.number → ⊥) → HaveNoneInCommon c.args.dataset.now its) c.args.datasets.now c.datasets.other
    c.index-datasets-other.result c.datasets-test.true c.index-datasets-other.is c.datasets.invariant (c.is_it_or_apart.ensures c.if-not-is_it_or_apart.false)

pub returns : goal.returns
returns c _ =
    holds_all (λ other (its : Dataset). (other ≡ c.args.number → ⊥) → HaveNoneInCommon c.args.dataset.now its) c.args.datasets.now c.datasets.other
    c.datasets-test.false c.datasets.invariant
