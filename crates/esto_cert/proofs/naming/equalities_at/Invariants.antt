use Rattle.std.proofs.Common.{◌≡◌, drop}
use Rattle.esto_term.proofs.ListLemmas.{after}
use Rattle.esto_cert.specs.Certificates.{equalities_at}
use Rattle.esto_cert.proofs.naming.equalities_at.Given as goal

abbrev pub invariant-numbers : goal.invariant-numbers
invariant-numbers l = after l.equalities (equalities_at l.claims (drop l.number-index l.numbers)) ≡ equalities_at l.claims l.numbers
