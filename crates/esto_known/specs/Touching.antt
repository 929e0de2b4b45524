-- Terms that are one by what is known, in the worlds of sets.
use Rattle.std.specs.Prelude.{◌≡◌, ◌⊎◌, ℕ, Bool, List, Contains}
use Rattle.esto_term.specs.declared.term.Term.{Term}
use Rattle.esto_term.specs.Sets.{Covers}
use Rattle.esto_chase_laws.specs.Claims.{AreSameClaim}
use Rattle.esto_chase_laws.specs.Worlds.{SaysOne}
use Rattle.esto_known.specs.declared.group.Group.{Group}

-- Their sets have the count, and no two have one claim.
pub record AreGroupsOf (count : ℕ) (groups : List Group) : Type 0 where
  pub counted : (group : Group) → Contains groups group → group.by.count ≡ count
  pub distinct : (group other : Group) → Contains groups group → Contains groups other → AreSameClaim group.claim other.claim → group ≡ other

-- An equality of the terms is known in the set's world.
abbrev pub AreLinked : List Group → List Bool → Term → Term → Type 0
AreLinked groups set term other = (group : Group) × Contains groups group × SaysOne group.claim term other × Covers group.by.sets set

-- The terms are equal, or an equality of them is known in the set's world.
abbrev pub AreTouching : List Group → List Bool → Term → Term → Type 0
AreTouching groups set term other = (term ≡ other) ⊎ AreLinked groups set term other
