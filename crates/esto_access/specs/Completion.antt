-- Completions: sets of atoms in which something holds, made executable. Source: backchase with provenance (Ileana, Cautis, Deutsch and Katsis 2014), where the
-- atoms have binding patterns.
use Rattle.std.specs.Prelude.{◌≡◌, ◌↔◌, ℕ, Bool, false, List, [], ◌∷◌, ◌++◌, map, length, replicate, Contains}
use Rattle.esto_term.specs.declared.term.Term.{Term}
use Rattle.esto_semantics.specs.Access.{Patterns, HoldsExecutably}
use Rattle.esto_term.specs.Sets.{Has, IsMinimal, TellHolds, numbers}
use Rattle.esto_semantics.specs.declared.fact.Fact.{Fact}
use Rattle.esto_bits.specs.Kept.{Kept, AreOver, unions}
use Rattle.esto_access.specs.Supplies.{AreAccessProducts, EachIs, IsReachedIn, IsSupplied, sets_at}

-- The unions of one set of each family, in every combination.
abbrev pub combined : ℕ → List (List (List Bool)) → List (List Bool)
combined count [] = replicate count false ∷ []
combined count (family ∷ families) = unions family (combined count families)

-- The completions of a set: for each of its numbers, in every combination, one of the sets that are given for the number.
abbrev pub completions_of : ℕ → List Kept → List Bool → List (List Bool)
completions_of count supplies set = combined count (map (sets_at supplies) (numbers set))

-- The completions of all the sets.
abbrev pub completions : ℕ → List Kept → List (List Bool) → List (List Bool)
completions count supplies [] = []
completions count supplies (set ∷ sets) = completions_of count supplies set ++ completions count supplies sets

-- There are sets for each number below the count, and they are of that count.
pub record AreSuppliesOf (count : ℕ) (supplies : List Kept) : Type 0 where
  pub each : length supplies ≡ count
  pub counts : EachIs (λ _ products. products.count ≡ count) supplies
  pub over : EachIs (λ _ products. AreOver count products.sets) supplies

-- Each set that is given for a number has it.
abbrev pub HaveOwn : List Kept → Type 0
HaveOwn supplies = EachIs (λ number products. (set : List Bool) → Contains products.sets set → Has set number) supplies

-- Each number of the low set is supplied in the set, so a completion of the low set is a subset of it.
abbrev pub IsCompletedIn : List Kept → List Bool → List Bool → Type 0
IsCompletedIn supplies low set = (number : ℕ) → Has low number → IsSupplied supplies set number

-- Each number of each of the sets is supplied in the set itself.
abbrev pub AreComplete : List Kept → List (List Bool) → Type 0
AreComplete supplies lows = (low : List Bool) → Contains lows low → IsCompletedIn supplies low low

-- One of the low sets has a completion that is a subset of the set.
abbrev pub IsOneCompletedIn : List Kept → List (List Bool) → List Bool → Type 0
IsOneCompletedIn supplies lows set = (low : List Bool) × Contains lows low × IsCompletedIn supplies low set

-- What is given for the numbers are the atoms' access products, which tell where the atoms are reached.
pub record AreAccessSupplies (patterns : Patterns) (atoms : List (Fact Term)) (supplies : List Kept) : Type 0 where
  pub each : length supplies ≡ length atoms
  pub least : EachIs (λ number products. AreAccessProducts patterns atoms number products.sets) supplies
  pub tell : EachIs (λ number products. TellHolds (length atoms) (IsReachedIn patterns atoms number) products.sets) supplies

-- Where sets tell where P holds, the minimal executable sets that P holds of are exactly the minimal completions of these sets by the atoms' access products.
abbrev pub MinimalCompletions : Patterns → List (Fact Term) → (List Bool → Type 0) → Type 0
MinimalCompletions patterns atoms P =
    (sets : List (List Bool)) (supplies : List Kept) → TellHolds (length atoms) P sets → AreAccessSupplies patterns atoms supplies
    → (set : List Bool) → IsMinimal (HoldsExecutably patterns atoms P) set ↔ IsMinimal (Contains (completions (length atoms) supplies sets)) set
