use Rattle.esto_semantics.specs.Valuations.{map_of}
use Rattle.esto_semantics.proofs.ValuationLemmas.{Keeps-map_of, Extends-map_of}
use Rattle.esto_constraint.proofs.meeting.least_active_matches_are_least.Goals as goal

pub returns : goal.returns
returns c rule facts valuation places is = (
  record {
    keeps = Keeps-map_of valuation;
    matches = ((is.is_found.exact (map_of valuation) (Keeps-map_of valuation)).0 (Extends-map_of valuation)).1;
    active = is.active (map_of valuation) (Keeps-map_of valuation) (Extends-map_of valuation);
  },
  λ other others active. is.least other others active.keeps active.matches active.active,
)
