use Rattle.std.proofs.Common.{◌≡◌, ◌≤◌, ◌⊎◌, ◌++◌, ℕ, List, Bool, Some, take, Contains, slice_get}
use Rattle.esto_term.specs.Sets.{Within}
use Rattle.esto_chase_laws.specs.Worlds.{SaysOne}
use Rattle.esto_chase_laws.specs.declared.entry.Entry.{Entry}
use Rattle.esto_condchase.specs.Ways.{Grown, IsTold, HasSupport, IsLonger}
use Rattle.esto_condchase.proofs.passing.longer.Given as goal

abbrev pub invariant-links : goal.invariant-links
invariant-links l = record {
  grown : Grown (IsLonger l.step.known.now l.own l.goal l.before) l.fn.next l.next;
  tried : (place : ℕ) → Contains (take l.place-index l.links) place → (set : List Bool) (entry : Entry) → l.floor ≤ place
      → slice_get l.step.known.now place ≡ Some entry → SaysOne entry.claim l.own l.goal → Within l.before.product set → Within entry.product set
      → HasSupport l.next set ⊎ IsTold l.step.known.now l.step.sides l.step.places.now l.kept (l.step.to.now ++ l.step.owns.now) set;
}
