use Rattle.std.proofs.Common.{◌≡◌, drop}
use Rattle.esto_term.proofs.ListLemmas.{after}
use Rattle.esto_cert.specs.Certificates.{facts_at}
use Rattle.esto_cert.proofs.naming.facts_at.Given as goal

abbrev pub invariant-numbers : goal.invariant-numbers
invariant-numbers l = after l.facts (facts_at l.claims (drop l.number-index l.numbers)) ≡ facts_at l.claims l.numbers
