-- Joins in an order of our own: where cells stand in rows so far, and which links a get has there.
use Rattle.std.specs.Prelude.{◌≡◌, ◌==◌, ◌&&◌, ◌||◌, ◌↔◌, ℕ, zero, suc, ◌+◌, ◌<◌, Bool, true, false, cond, List, [], ◌∷◌, ◌++◌, Some, length, map, flat_map}
use Rattle.std.specs.Prelude.{take, slice_get, Contains}
use Rattle.esto_semantics.specs.declared.fact.Fact.{Fact}
use Rattle.esto_steps.specs.declared.steps.Get.{Get}
use Rattle.esto_steps.specs.declared.steps.Link.{Link}
use Rattle.esto_steps.specs.declared.steps.Source.{Source}
use Rattle.esto_steps.specs.declared.steps.Source.TheVariants.{Code, Cell}
use Rattle.esto_exec.specs.Slots.{side_of, slot_at, IsKnown, IsChoice}
use Rattle.esto_exec.specs.declared.slots.Slot.{Slot}
use Rattle.esto_exec.specs.declared.slots.Side.{Side}
use Rattle.esto_exec.specs.declared.slots.Side.TheVariants.{Constant, Held, Nothing}
use Rattle.esto_exec.specs.declared.slots.Equation.{Equation}

-- Whether the two are one slot: of the same get, and of the same column.
abbrev pub same_slot : Slot → Slot → Bool
same_slot slot other = (slot.get == other.get) && (slot.column == other.column)

-- The first place of the slot, or past the end.
abbrev pub place_in : List Slot → Slot → ℕ
place_in [] slot = 0
place_in (first ∷ rest) slot = cond (same_slot first slot) 0 (place_in rest slot + 1)

-- Whether the number is one of these.
abbrev pub is_in : List ℕ → ℕ → Bool
is_in [] number = false
is_in (first ∷ rest) number = (first == number) || is_in rest number

-- Whether the side is known where the gets of the numbers are done: a slot is where its get is one of these; what is no
-- slot always is.
abbrev pub is_known : List ℕ → Side → Bool
is_known done (Constant code) = true
is_known done (Held slot) = is_in done slot.get
is_known done Nothing = true

-- What names the side's code in rows whose cells are those of the slots; what is not there is named by a place past the
-- end.
abbrev pub source_in : List Slot → Side → Source
source_in places (Constant code) = Code code
source_in places (Held slot) = Cell (place_in places slot)
source_in places Nothing = Cell (length places)

-- The link of a get, after gets with these arities in the stated order, as rows so far have it.
abbrev pub link_in : List Slot → List ℕ → Link → Link
link_in places arities link = record { column = link.column; source = source_in places (side_of arities link.source) }

-- The equation as a link of the get, where its side names the get and its own slot is known.
abbrev pub link_back : ℕ → List ℕ → List Slot → Slot → Side → List Link
link_back number done places slot (Constant code) = []
link_back number done places slot Nothing = []
link_back number done places slot (Held other) =
    cond (other.get == number && is_in done slot.get) (record { column = other.column; source = source_in places (Held slot) } ∷ []) []

-- The equation as a link of the get, where both of its sides are known and one is the get's own.
abbrev pub links_of : ℕ → List ℕ → List Slot → Equation → List Link
links_of number done places equation = cond (equation.slot.get == number)
    (cond (is_known done equation.side) (record { column = equation.slot.column; source = source_in places equation.side } ∷ []) [])
    (link_back number done places equation.slot equation.side)

-- The slots of the columns of a get's row, so many from a column on.
abbrev pub slots_from : ℕ → ℕ → ℕ → List Slot
slots_from number column zero = []
slots_from number column (suc count) = record { get = number; column = column } ∷ slots_from number (column + 1) count

-- The inputs of the get are known.
abbrev pub IsReady : List ℕ → List ℕ → Get → ℕ → Type 0
IsReady arities done get number = (link : Link) → Contains get.inputs link → IsKnown done (side_of (take number arities) link.source)

-- The slots of the side: one, or none.
abbrev pub side_slots : Side → List Slot
side_slots (Constant code) = []
side_slots (Held slot) = slot ∷ []
side_slots Nothing = []

-- The slots that the inputs of the gets name which are not done; the first get has the number.
abbrev pub input_slots : List ℕ → List ℕ → ℕ → List Get → List Slot
input_slots arities done number [] = []
input_slots arities done number (get ∷ gets) =
    cond (is_in done number) [] (flat_map (λ (link : Link). side_slots (side_of (take number arities) link.source)) get.inputs)
    ++ input_slots arities done (number + 1) gets

-- Both sides of the equation are known.
abbrev pub is_decided : List ℕ → Equation → Bool
is_decided done equation = is_in done equation.slot.get && is_known done equation.side

-- The slots that the equations name which are not decided.
abbrev pub equation_slots : List ℕ → List Equation → List Slot
equation_slots done equations =
    flat_map (λ (equation : Equation). cond (is_decided done equation) [] (equation.slot ∷ side_slots equation.side)) equations

-- The slots that the head names.
abbrev pub head_slots : List ℕ → List Source → List Slot
head_slots arities head = flat_map (λ source. side_slots (side_of arities source)) head

-- The slots that are needed where the gets of the numbers are done: those that inputs, equations or the head still
-- name.
abbrev pub needed_slots : List ℕ → List Get → List Equation → List Source → List ℕ → List Slot
needed_slots arities gets equations head done = (equation_slots done equations ++ input_slots arities done 0 gets) ++ head_slots arities head

-- Whether the slot is one of these.
abbrev pub is_among : List Slot → Slot → Bool
is_among [] slot = false
is_among (first ∷ rest) slot = same_slot first slot || is_among rest slot

-- Those of the slots that are needed.
abbrev pub kept_slots : List Slot → List Slot → List Slot
kept_slots needed [] = []
kept_slots needed (slot ∷ slots) = cond (is_among needed slot) (slot ∷ []) [] ++ kept_slots needed slots

-- Each slot is needed that is named by an input of a get which is not done, or by an equation whose sides are not both
-- known.
pub record AreNeeded (arities : List ℕ) (gets : List Get) (equations : List Equation) (done : List ℕ) (needed : List Slot) : Type 0 where
  pub slots : (equation : Equation) → Contains equations equation → ¬ (Contains done equation.slot.get × IsKnown done equation.side)
      → Contains needed equation.slot
  pub sides : (equation : Equation) (slot : Slot) → Contains equations equation → ¬ (Contains done equation.slot.get × IsKnown done equation.side)
      → equation.side ≡ Held slot → Contains needed slot
  pub inputs : (number : ℕ) (get : Get) (link : Link) (slot : Slot) → slice_get gets number ≡ Some get → Contains get.inputs link → ¬ (Contains done number)
      → side_of (take number arities) link.source ≡ Held slot → Contains needed slot

-- The slots are of rows of the gets that are done, and each of these that is needed is there.
pub record AreSlots (needed : List Slot) (arities done : List ℕ) (places : List Slot) : Type 0 where
  pub there : (slot : Slot) (arity : ℕ) → Contains needed slot → Contains done slot.get → slice_get arities slot.get ≡ Some arity → slot.column < arity
      → Contains places slot
  pub own : (slot : Slot) → Contains places slot → Contains done slot.get
  pub within : (slot : Slot) (arity : ℕ) → Contains places slot → slice_get arities slot.get ≡ Some arity → slot.column < arity

-- The rows with the property are those of the cells at the places in the choices for the gets that are done.
abbrev pub AreParts : (Fact ℕ → Type 0) → List ℕ → List Get → List Equation → List ℕ → List Slot → (List ℕ → Type 0) → Type 0
AreParts Holds arities gets equations done places Has = (row : List ℕ) → Has row
    ↔ ((choice : ℕ → List ℕ) × IsChoice Holds arities gets equations done choice × (map (slot_at choice) places ≡ map Some row))

-- The numbers are the arities of the rows that the gets give.
pub record AreArities (Holds : Fact ℕ → Type 0) (gets : List Get) (arities : List ℕ) : Type 0 where
  pub long : length arities ≡ length gets
  pub fit : (number : ℕ) (get : Get) (row : List ℕ) → slice_get gets number ≡ Some get → Holds (record { relation = get.fragment; terms = row })
      → (arity : ℕ) × (slice_get arities number ≡ Some arity) × (length row ≡ arity)

-- The gets of the numbers are done, and the rows are what they give together, in the slots that are still needed.
pub record IsUnderWay (Holds : Fact ℕ → Type 0) (arities : List ℕ) (gets : List Get) (equations : List Equation) (head : List Source) (done : List ℕ)
    (places : List Slot) (rows : List (List ℕ)) : Type 0 where
  pub named : (number : ℕ) → Contains done number → number < length gets
  pub settled : (number : ℕ) (get : Get) → Contains done number → slice_get gets number ≡ Some get → IsReady arities done get number
  pub slots : AreSlots (needed_slots arities gets equations head done) arities done places
  pub parts : AreParts Holds arities gets equations done places (Contains rows)
