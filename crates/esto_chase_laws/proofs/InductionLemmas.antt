-- Induction over derived entries: what holds of each that follows from entries of which it holds, holds of all.
use Rattle.std.proofs.Common.{◌≡◌, ◌<◌, zero, suc, ℕ, Bool, List, take, slice_get, Contains, Some, arith}
use Rattle.esto_term.proofs.ListLemmas.{place-from_Contains}
use Rattle.esto_term.proofs.PlaceLemmas.{Contains-take_from}
use Rattle.esto_semantics.specs.Rules.{Rule}
use Rattle.esto_semantics.specs.declared.expanded.ExpandedFact.{ExpandedFact}
use Rattle.esto_chase_laws.specs.Derived.{Follows, AreDerived}
use Rattle.esto_chase_laws.specs.declared.entry.Claim.{Claim}
use Rattle.esto_chase_laws.specs.declared.entry.Reason.{Reason}
use Rattle.esto_chase_laws.specs.declared.entry.Entry.{Entry}

module _ (P : Claim → List Bool → Type 0) (expanded : List ExpandedFact) (rules : List Rule) where
  -- what holds of the entries before holds of what follows from them
  abbrev pub IsHanded : Type 0
  IsHanded = (before : List Entry) (claim : Claim) (product : List Bool) (reason : Reason)
      → ((entry : Entry) → Contains before entry → P entry.claim entry.product) → Follows expanded rules before claim product reason → P claim product

  module _ (entries : List Entry) (step : IsHanded) (derived : AreDerived expanded rules entries) where
    upto : (bound place : ℕ) (it : Entry) → place < bound → slice_get entries place ≡ Some it → P it.claim it.product
    upto zero place it below at = absurd (omega (arith, below))
    upto (suc bound) place it below at =
        step (take place entries) it.claim it.product it.reason
        (λ other among. let found = Contains-take_from entries place other among in upto bound found.0 other (omega (arith, below, found.1)) found.2)
        (derived place it at)

    pub all_derived : (entry : Entry) → Contains entries entry → P entry.claim entry.product
    all_derived entry inside = let at = place-from_Contains entries entry inside in upto (suc at.0) at.0 entry (omega arith) at.1
