-- What it is for values and faults to be those of a function, which leaves out no input.
use Rattle.std.specs.Prelude.{◌≡◌, ◌⊎◌, Result, Ok, Err}

-- There is a value, or there is a fault.
abbrev pub HasOneOf : {T F : Type 0} → (T → Type 0) → (F → Type 0) → Type 0
HasOneOf {T} {F} IsValue IsFault = ((value : T) × IsValue value) ⊎ ((fault : F) × IsFault fault)

-- Of each input there is a value, or there is a fault.
abbrev pub IsTotal : {B T F : Type 0} → (B → T → Type 0) → (B → F → Type 0) → Type 0
IsTotal {B} IsValue IsFault = (input : B) → HasOneOf (IsValue input) (IsFault input)

-- The answer to an input is a value of it, or a fault of it.
abbrev pub IsAnswer : {B T F : Type 0} → (B → T → Type 0) → (B → F → Type 0) → B → Result T F → Type 0
IsAnswer IsValue IsFault input (Ok value) = IsValue input value
IsAnswer IsValue IsFault input (Err fault) = IsFault input fault

-- Two answers agree where both are values that count as the same, or both are one fault.
abbrev pub AreSameAnswer : {T F : Type 0} → (T → T → Type 0) → Result T F → Result T F → Type 0
AreSameAnswer Same (Ok value) (Ok other) = Same value other
AreSameAnswer Same (Err fault) (Err other) = fault ≡ other
AreSameAnswer Same (Ok value) (Err fault) = ⊥
AreSameAnswer Same (Err fault) (Ok value) = ⊥

-- Values and faults are those of a function: each input has an answer, and any two answers to it agree.
pub record IsFunction {B T F : Type 0} (Same : T → T → Type 0) (IsValue : B → T → Type 0) (IsFault : B → F → Type 0) : Type 0 where
  pub total : (input : B) → (answer : Result T F) × IsAnswer IsValue IsFault input answer
  pub one : (input : B) (answer other : Result T F) → IsAnswer IsValue IsFault input answer → IsAnswer IsValue IsFault input other
      → AreSameAnswer Same answer other
