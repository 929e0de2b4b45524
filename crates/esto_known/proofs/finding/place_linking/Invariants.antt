use Rattle.std.proofs.Common.{map}
use Rattle.esto_chase_laws.specs.declared.entry.Claim.TheVariants.{Same}
use Rattle.esto_known.specs.Hashes.{claim_key}
use Rattle.esto_known.specs.Groups.{claims_of, LinksAt}
use Rattle.esto_known.proofs.IndexLemmas.{Sought}
use Rattle.esto_known.proofs.finding.place_linking.Given as goal

-- the places that are left to look at are before the next one
abbrev pub invariant-places : goal.invariant-places
invariant-places l = Sought l.keys.by_claim (map claim_key (claims_of l.groups)) (claim_key (Same l.term l.other)) (LinksAt l.groups l.term l.other) l.next

abbrev pub decreases-places : goal.decreases-places
decreases-places l = l.next
