use Rattle.std.proofs.Common.{◌++◌, List, ap, ◌∙◌}
use Rattle.std.specs.List.{flat_map}
use Rattle.std.proofs.lemmas.List.{take_all}
use Rattle.esto_term.specs.declared.term.Term.{Term}
use Rattle.esto_semantics.specs.declared.fact.Fact.{Fact}
use Rattle.esto_views.proofs.ReadingLemmas.{rows_read_more}
use Rattle.esto_views.proofs.reading.terms_read.Goals as goal

pub rows-init : goal.rows-init
rows-init c = c.new-terms.ensures

pub rows-preserved : goal.rows-preserved
rows-preserved c =
    rows_read_more c.args.rows.now c.rows.row-index c.row-item.result c.rows.terms c.append_copy.new.terms
    (rw c.items-row-items.ensures at c.rows-test.true) (rw c.items-row-items.ensures at c.row-item.is)
    c.in_ok-append_copy.ensures c.rows.invariant

pub returns : goal.returns
returns c =
    let terms_of : Fact Term → List Term = λ row. row.terms in
    c.in_ok-append_copy-2.ensures
    ∙ ap (λ it. it ++ c.args.head.now) (c.rows.invariant ∙ ap (flat_map terms_of)
    (take_all c.rows.row-index c.args.rows.now (rw c.items-row-items.ensures at c.rows-test.false)))
