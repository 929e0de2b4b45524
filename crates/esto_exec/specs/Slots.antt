-- What links say of the rows that gets give, whatever order the gets are taken in.
use Rattle.std.specs.Prelude.{◌≡◌, ℕ, ◌+◌, ◌-◌, nat_lt, cond, List, [], ◌∷◌, ◌++◌, Option, Some, None, map, slice_get, take, Contains}
use Rattle.esto_semantics.specs.declared.fact.Fact.{Fact}
use Rattle.esto_steps.specs.declared.steps.Get.{Get}
use Rattle.esto_steps.specs.declared.steps.Link.{Link}
use Rattle.esto_steps.specs.declared.steps.Source.{Source}
use Rattle.esto_steps.specs.declared.steps.Source.TheVariants.{Code, Cell}
use Rattle.esto_exec.specs.declared.slots.Slot.{Slot}
use Rattle.esto_exec.specs.declared.slots.Side.{Side}
use Rattle.esto_exec.specs.declared.slots.Side.TheVariants.{Constant, Held, Nothing}
use Rattle.esto_exec.specs.declared.slots.Equation.{Equation}

-- The cell at the place of the rows of gets with these arities, which stand one after another; the first get has the
-- number.
abbrev pub side_from : ℕ → List ℕ → ℕ → Side
side_from number [] place = Nothing
side_from number (arity ∷ rest) place =
    cond (nat_lt place arity) (Held (record { get = number; column = place })) (side_from (number + 1) rest (place - arity))

-- What the source names where the rows of gets with these arities stand one after another.
abbrev pub side_of : List ℕ → Source → Side
side_of arities (Code code) = Constant code
side_of arities (Cell place) = side_from 0 arities place

-- The equations of the links of a get of the number, after gets with these arities.
abbrev pub equations_by : List ℕ → ℕ → List Link → List Equation
equations_by arities number links =
    map (λ (link : Link). record { slot = record { get = number; column = link.column }; side = side_of arities link.source }) links

-- The equations of the filters of the gets, the first of which has the number. A filter may name cells of the get's own
-- row.
abbrev pub equations_from : List ℕ → ℕ → List Get → List Equation
equations_from arities number [] = []
equations_from arities number (get ∷ gets) = equations_by (take (number + 1) arities) number get.filters ++ equations_from arities (number + 1) gets

-- The code of the slot in a choice of a row for each get.
abbrev pub slot_at : (ℕ → List ℕ) → Slot → Option ℕ
slot_at choice slot = slice_get (choice slot.get) slot.column

-- The code of the side in a choice of a row for each get.
abbrev pub side_at : (ℕ → List ℕ) → Side → Option ℕ
side_at choice (Constant code) = Some code
side_at choice (Held slot) = slot_at choice slot
side_at choice Nothing = None

-- In the choice the slot holds the code of the side.
abbrev pub AreEqual : (ℕ → List ℕ) → Slot → Side → Type 0
AreEqual choice slot side = (code : ℕ) × (slot_at choice slot ≡ Some code) × (side_at choice side ≡ Some code)

-- The side is known where the gets of the numbers are done.
abbrev pub IsKnown : List ℕ → Side → Type 0
IsKnown done (Constant code) = Unit {0}
IsKnown done (Held slot) = Contains done slot.get
IsKnown done Nothing = Unit {0}

-- The choice has for each get that is done a row of its fragment, and meets what the links say of these rows alone.
pub record IsChoice (Holds : Fact ℕ → Type 0) (arities : List ℕ) (gets : List Get) (equations : List Equation) (done : List ℕ) (choice : ℕ
    → List ℕ) : Type 0 where
  pub held : (number : ℕ) (get : Get) → Contains done number → slice_get gets number ≡ Some get
      → Holds (record { relation = get.fragment; terms = choice number })
  pub inputs : (number : ℕ) (get : Get) (link : Link) → Contains done number → slice_get gets number ≡ Some get → Contains get.inputs link
      → AreEqual choice (record { get = number; column = link.column }) (side_of (take number arities) link.source)
  pub filters : (equation : Equation) → Contains equations equation → Contains done equation.slot.get → IsKnown done equation.side
      → AreEqual choice equation.slot equation.side
