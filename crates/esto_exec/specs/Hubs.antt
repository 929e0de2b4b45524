-- Equations in which another slot is the hub, and that they say the same.
use Rattle.std.specs.Prelude.{◌↔◌, ℕ, cond, List, Contains}
use Rattle.esto_exec.specs.Slots.{AreEqual, IsKnown}
use Rattle.esto_exec.specs.Turns.{same_slot}
use Rattle.esto_exec.specs.declared.slots.Slot.{Slot}
use Rattle.esto_exec.specs.declared.slots.Side.{Side}
use Rattle.esto_exec.specs.declared.slots.Side.TheVariants.{Constant, Held, Nothing}
use Rattle.esto_exec.specs.declared.slots.Equation.{Equation}

-- The equation of the slot of its own and the side: where this is the hub, that of the slot itself says that the hub
-- holds what the slot does, and each other one names the slot in the hub's place.
abbrev pub turned_by : Slot → Slot → Slot → Side → Equation
turned_by hub slot own (Constant code) = record { slot = own; side = Constant code }
turned_by hub slot own (Held other) = cond (same_slot other hub)
    (cond (same_slot own slot) (record { slot = hub; side = Held slot }) (record { slot = own; side = Held slot }))
    (record { slot = own; side = Held other })
turned_by hub slot own Nothing = record { slot = own; side = Nothing }

-- The equation where the slot takes the place of the hub.
abbrev pub turned : Slot → Slot → Equation → Equation
turned hub slot equation = turned_by hub slot equation.slot equation.side

-- In the choice each of the equations is met.
abbrev pub AreMet : (ℕ → List ℕ) → List Equation → Type 0
AreMet choice equations = (equation : Equation) → Contains equations equation → AreEqual choice equation.slot equation.side

-- Both sides of each of the equations are known where the gets of the numbers are done.
abbrev pub AreKnown : List ℕ → List Equation → Type 0
AreKnown done equations = (equation : Equation) → Contains equations equation → Contains done equation.slot.get × IsKnown done equation.side

-- The two lists are met in the same choices, and the second one is known where the first one is.
pub record SayTheSame (one other : List Equation) : Type 0 where
  pub met : (choice : ℕ → List ℕ) → AreMet choice one ↔ AreMet choice other
  pub known : (done : List ℕ) → AreKnown done one → AreKnown done other
