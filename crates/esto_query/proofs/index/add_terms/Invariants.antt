use Rattle.esto_query.specs.Indexes.{AddsTerms}
use Rattle.esto_query.proofs.index.add_terms.Given as goal

abbrev pub invariant-columns : goal.invariant-columns
invariant-columns l = AddsTerms l.fact l.columns l.names l.place l.column l.fn.terms.items l.terms.items
