use Rattle.std.proofs.Common.{map}
use Rattle.esto_chase_laws.specs.declared.entry.Claim.TheVariants.{Fact as Stated}
use Rattle.esto_known.specs.Hashes.{claim_key}
use Rattle.esto_known.specs.Groups.{claims_of, StatesAt}
use Rattle.esto_known.proofs.IndexLemmas.{Sought}
use Rattle.esto_known.proofs.finding.place_stating.Given as goal

-- the places that are left to look at are before the next one
abbrev pub invariant-places : goal.invariant-places
invariant-places l = Sought l.keys.by_claim (map claim_key (claims_of l.groups)) (claim_key (Stated l.fact)) (StatesAt l.groups l.fact) l.next

abbrev pub decreases-places : goal.decreases-places
decreases-places l = l.next
