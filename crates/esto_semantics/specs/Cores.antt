-- Cores of plans. Source: cores of relational structures (Hell and Nešetřil 1992), and of universal solutions (Fagin, Kolaitis and Popa 2005).
use Rattle.std.specs.Prelude.{◌≡◌, ◌⊎◌, ℕ, ◌<◌, Bool, List, [], ◌∷◌, ◌++◌, length, map, Contains, IsPermutation}
use Rattle.esto_term.specs.declared.term.Term.{Term}
use Rattle.esto_term.specs.declared.term.Term.TheVariants.{Const}
use Rattle.esto_semantics.specs.Facts.{image, Mentions}
use Rattle.esto_semantics.specs.Instances.{MapsTo}
use Rattle.esto_semantics.specs.Listed.{chosen}
use Rattle.esto_semantics.specs.Maps.{Keeps}
use Rattle.esto_semantics.specs.Queries.{ConjunctiveQuery}
use Rattle.esto_term.specs.Sets.{Has}
use Rattle.esto_semantics.specs.declared.fact.Fact.{Fact}

-- The query that has this head over these atoms.
abbrev pub with_head : List Term → List (Fact Term) → ConjunctiveQuery
with_head head atoms = record { head = head; body = atoms }

-- The atoms retract into the others: some map that keeps constants and each term of the head sends each of the atoms to one of the others.
abbrev pub Retracts : List Term → List (Fact Term) → List (Fact Term) → Type 0
Retracts head atoms others = MapsTo (with_head head atoms) (with_head head others)

-- The plan is a core: its atoms do not retract into those without one of them.
abbrev pub IsCore : ConjunctiveQuery → Type 0
IsCore plan =
    (front back : List (Fact Term)) (atom : Fact Term) → plan.body ≡ front ++ atom ∷ back → ¬ (Retracts plan.head plan.body (front ++ back))

-- The plan's atoms retract into no proper sublist of themselves.
abbrev pub HasNoRetract : ConjunctiveQuery → Type 0
HasNoRetract plan =
    (set : List Bool) → length set ≡ length plan.body → Retracts plan.head plan.body (chosen set plan.body)
    → (number : ℕ) → number < length plan.body → Has set number

-- What is left of an atom and of what is left after it, where atoms stand before it: the atom is dropped where all these retract into those without it.
abbrev pub IsLeft : List Term → List (Fact Term) → Fact Term → List (Fact Term) → List (Fact Term) → Type 0
IsLeft head before atom after left =
    (Retracts head (before ++ atom ∷ after) (before ++ after) × (left ≡ after))
    ⊎ (¬ (Retracts head (before ++ atom ∷ after) (before ++ after)) × (left ≡ atom ∷ after))

-- What is left of the atoms, where others stand before them, when they are gone through from the last to the first.
abbrev pub AreLeft : List Term → List (Fact Term) → List (Fact Term) → List (Fact Term) → Type 0
AreLeft head before [] left = left ≡ []
AreLeft head before (atom ∷ atoms) left =
    (after : List (Fact Term)) × AreLeft head (before ++ atom ∷ []) atoms after × IsLeft head before atom after left

-- The other plan is the plan under a renaming of its terms, but for the order of its atoms. The renaming keeps constants, and another map that keeps constants
-- undoes it on the plan's terms.
pub record IsRenamedTo (plan other : ConjunctiveQuery) : Type 0 where
  pub renaming : Term → Term
  pub back : Term → Term
  pub keeps : Keeps Const renaming
  pub back_keeps : Keeps Const back
  pub undone : (term : Term) → Contains plan.head term ⊎ Mentions plan.body term → back (renaming term) ≡ term
  pub head : map renaming plan.head ≡ other.head
  pub atoms : IsPermutation (map (image renaming) plan.body) other.body
