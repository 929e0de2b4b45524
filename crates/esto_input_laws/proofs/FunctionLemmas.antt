-- What is total and determined is a function.
use Rattle.std.proofs.Common.{◌≡◌, inl, inr, Result, Ok, Err}
use Rattle.esto_input_laws.specs.Totality.{HasOneOf, IsTotal, IsAnswer, AreSameAnswer, IsFunction}

module _ {B T F : Type 0} (Same : T → T → Type 0) (IsValue : B → T → Type 0) (IsFault : B → F → Type 0) (total : IsTotal IsValue IsFault)
    (one_value : (input : B) (value other : T) → IsValue input value → IsValue input other → Same value other)
    (apart : (input : B) (value : T) (fault : F) → IsValue input value → ¬ IsFault input fault)
    (one_fault : (input : B) (fault other : F) → IsFault input fault → IsFault input other → fault ≡ other) where
  answered : (input : B) → HasOneOf (IsValue input) (IsFault input) → (answer : Result T F) × IsAnswer IsValue IsFault input answer
  answered input (inl (value, is)) = (Ok value, is)
  answered input (inr (fault, is)) = (Err fault, is)

  same : (input : B) (answer other : Result T F) → IsAnswer IsValue IsFault input answer → IsAnswer IsValue IsFault input other
      → AreSameAnswer Same answer other
  same input (Ok value) (Ok other) is is' = one_value input value other is is'
  same input (Ok value) (Err fault) is is' = apart input value fault is is'
  same input (Err fault) (Ok value) is is' = apart input value fault is' is
  same input (Err fault) (Err other) is is' = one_fault input fault other is is'

  pub is_function : IsFunction Same IsValue IsFault
  is_function = record { total = λ input. answered input (total input); one = same }
