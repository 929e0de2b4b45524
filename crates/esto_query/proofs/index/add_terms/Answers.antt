use Rattle.std.proofs.Common.{subst, arith}
use Rattle.esto_query.specs.Indexes.{AddsTerms}
use Rattle.esto_query.proofs.IndexLemmas.{AddsTerms-none}
use Rattle.esto_query.proofs.index.add_terms.Goals as goal

pub columns-init : goal.columns-init
columns-init c = AddsTerms-none c.args.fact.now c.args.columns.now c.args.names.now c.args.place c.args.terms.now.items

pub columns-preserved : goal.columns-preserved
columns-preserved c = c.in_ok-add_term.ensures _ c.columns.invariant

pub returns : goal.returns
returns c =
    subst (λ n. AddsTerms c.args.fact.now c.args.columns.now c.args.names.now c.args.place n c.args.terms.now.items c.columns.terms.items)
    (omega arith) c.columns.invariant
