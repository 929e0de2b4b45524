use Rattle.std.proofs.Common.{ℕ, Contains}
use Rattle.esto_semantics.specs.declared.fact.Fact.{Fact}
use Rattle.esto_term.proofs.ListLemmas.{Contains-nil, each_more, each_seen}
use Rattle.esto_term.specs.declared.term.Term.{Term}
use Rattle.esto_fill.specs.Nodes.{column_of}
use Rattle.esto_fill.specs.Placing.{IsOpenAt}
use Rattle.esto_fill.proofs.nodes.node_columns.Goals as goal

pub facts-init : goal.facts-init
facts-init c fact inside = absurd (Contains-nil fact inside)

pub facts-preserved : goal.facts-preserved
facts-preserved c =
    each_more (λ (it : Fact Term). (column : ℕ) → IsOpenAt it.terms column → Contains c.add_columns.new.columns (column_of it.relation column))
    c.args.facts.now c.facts.fact-index c.fact-item.result c.facts-test.true c.fact-item.is c.in_ok-add_columns.ensures.1
    (λ it inside column there. c.in_ok-add_columns.ensures.0 _ (c.facts.invariant it inside column there))

pub returns : goal.returns
returns c =
    each_seen (λ (it : Fact Term). (column : ℕ) → IsOpenAt it.terms column → Contains c.facts.columns (column_of it.relation column))
    c.args.facts.now c.facts.fact-index c.facts-test.false c.facts.invariant
