use Rattle.std.proofs.Common.{◌≡◌, drop}
use Rattle.esto_views.specs.Names.{met_terms}
use Rattle.esto_views.proofs.naming.meet_terms.Given as goal

abbrev pub invariant-terms : goal.invariant-terms
invariant-terms l = met_terms l.names l.met (drop l.term-index l.terms) ≡ met_terms l.names l.initial.met l.terms
