-- What was asked of a shelf and of a sink, where they tell it.
use Rattle.std.specs.Prelude.{◌≡◌, ◌⊎◌, ℕ, List, [], ◌∷◌, ◌++◌, Option, Some, None, Result, Ok, Err}
use Rattle.esto_ports.specs.Faults.{next_count}
use Rattle.esto_ports.specs.declared.ports.ShelfError.{ShelfError}
use Rattle.esto_ports.specs.declared.ports.ShelfError.TheVariants as shelf
use Rattle.esto_ports.specs.declared.ports.SinkError.{SinkError}
use Rattle.esto_ports.specs.declared.ports.SinkError.TheVariants as sink

-- Where the names that were asked for were told, they are told, and these came to them.
abbrev pub AsksFor : Option (List (List ℕ)) → Option (List (List ℕ)) → List (List ℕ) → Type 0
AsksFor None new names = Unit {0}
AsksFor (Some old) new names = new ≡ Some (old ++ names)

-- The name of a fetch came to those that were asked for, where they are told; where memory was wanting, it may not have come.
abbrev pub Asks : Option (List (List ℕ)) → Option (List (List ℕ)) → List ℕ → Result (List ℕ) ShelfError → Type 0
Asks None new name result = Unit {0}
Asks (Some old) new name (Ok _) = AsksFor (Some old) new (name ∷ [])
Asks (Some old) new name (Err shelf.Failed) = AsksFor (Some old) new (name ∷ [])
Asks (Some old) new name (Err (shelf.TooLong _)) = AsksFor (Some old) new (name ∷ [])
Asks (Some old) new name (Err shelf.OutOfMemory) = AsksFor (Some old) new (name ∷ []) ⊎ AsksFor (Some old) new []

-- Where the puts were told, they are told, and one more is counted.
abbrev pub CountGoes : Option ℕ → Option ℕ → Type 0
CountGoes None new = Unit {0}
CountGoes (Some old) new = new ≡ Some (next_count old)

-- Where the puts were told, they are told, and no more are counted.
abbrev pub CountStays : Option ℕ → Option ℕ → Type 0
CountStays None new = Unit {0}
CountStays (Some old) new = new ≡ Some old

-- A put is counted, where puts are told; where memory was wanting, it may not be.
abbrev pub CountsOne : Option ℕ → Option ℕ → Result (Unit {0}) SinkError → Type 0
CountsOne None new result = Unit {0}
CountsOne (Some old) new (Ok _) = CountGoes (Some old) new
CountsOne (Some old) new (Err sink.Failed) = CountGoes (Some old) new
CountsOne (Some old) new (Err sink.OutOfMemory) = CountGoes (Some old) new ⊎ CountStays (Some old) new
