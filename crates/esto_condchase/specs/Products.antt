-- The products of a query's matches: what the worlds of all sets claim, claim by claim, and the terms that the first atoms of the body reach in them.
use Rattle.std.specs.Prelude.{◌≡◌, ◌↔◌, ℕ, Bool, List, ◌++◌, map, Contains}
use Rattle.std.specs.List.{AllZip}
use Rattle.esto_term.specs.declared.term.Term.{Term}
use Rattle.esto_semantics.specs.Facts.{terms_of}
use Rattle.esto_term.specs.Sets.{Covers}
use Rattle.esto_semantics.specs.declared.fact.Fact.{Fact}
use Rattle.esto_chase_laws.specs.WorldMatches.{IsLike, taken}
use Rattle.esto_chase_laws.specs.declared.entry.Claim.TheVariants.{Fact as Stated}
use Rattle.esto_known.specs.declared.group.Group.{Group}
use Rattle.esto_known.specs.Told.{Tell}
use Rattle.esto_condchase.specs.declared.reached.Reached.{Reached}
use Rattle.esto_known.specs.Touching.{AreTouching}

-- These terms are reached in the set's world.
abbrev pub Reach : List Reached → List Term → List Bool → Type 0
Reach ones to set = (one : Reached) × Contains ones one × (one.to ≡ to) × Covers one.by.sets set

-- These are the terms that are reached, in the worlds that both families cover.
abbrev pub IsReachedBy : List Term → List (List Bool) → List (List Bool) → List Term → List Bool → Type 0
IsReachedBy own sets others to set = (own ≡ to) × Covers sets set × Covers others set

-- Their sets have the count.
abbrev pub AreReachedOf : ℕ → List Reached → Type 0
AreReachedOf count ones = (one : Reached) → Contains ones one → one.by.count ≡ count

-- The terms `from`, those of an atom last, meet what is reached and the fact's terms, in the set's world, where the fact is known by these sets; and `these` of
-- them meet `to`.
abbrev pub StepsBy : List Group → List Term → List Term → Fact Term → Reached → List (List Bool) → Fact Term → List Term → List Bool → Type 0
StepsBy groups from these atom one sets fact to set =
    (to ≡ map (taken from (one.to ++ fact.terms)) these) × Covers one.by.sets set × Covers sets set
    × AllZip (AreTouching groups set) fact.terms (map (taken from (one.to ++ fact.terms)) atom.terms)

-- The same with a claim that is known, if it is a fact that is alike to the atom.
abbrev pub StepsWith : List Group → List Term → List Term → Fact Term → Reached → Group → List Term → List Bool → Type 0
StepsWith groups from these atom one group to set =
    (fact : Fact Term) × (group.claim ≡ Stated fact) × IsLike atom fact × StepsBy groups from these atom one group.by.sets fact to set

-- The same with any claim that is known.
abbrev pub StepsFrom : List Group → List Term → List Term → Fact Term → Reached → List Term → List Bool → Type 0
StepsFrom groups from these atom one to set = (group : Group) × Contains groups group × StepsWith groups from these atom one group to set

-- The same from any that were reached.
abbrev pub Steps : List Group → List Term → List Term → Fact Term → List Reached → List Term → List Bool → Type 0
Steps groups from these atom ones to set = (one : Reached) × Contains ones one × StepsFrom groups from these atom one to set

-- The targets are reached in the worlds in which they touch what the head meets first.
abbrev pub IsFirst : List Group → List Term → List Term → List Reached → Type 0
IsFirst groups head targets ones =
    (to : List Term) (set : List Bool) → Reach ones to set ↔ ((to ≡ targets) × AllZip (AreTouching groups set) targets (map (taken head targets) head))

-- With one atom more, the terms `later_from`, which tell what the rest asks for, meet what is reached then.
abbrev pub IsNext : List Group → Fact Term → List (Fact Term) → List Term → List Reached → List Term → List Reached → Type 0
IsNext groups atom rest from ones later_from later =
    Tell (from ++ atom.terms) (terms_of rest) later_from
    × ((to : List Term) (set : List Bool) → Reach later to set ↔ Steps groups (from ++ atom.terms) later_from atom ones to set)
