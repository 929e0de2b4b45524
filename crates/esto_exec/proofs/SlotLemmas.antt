-- Choices of a row for each get, and what sources name in them.
use Rattle.std.proofs.Common.{◌≡◌, ◌≢◌, ℕ, zero, suc, ◌+◌, ◌-◌, ◌<◌, nat_lt, Bool, true, false, cond, List, [], ◌∷◌, ◌++◌, length}
use Rattle.std.proofs.Common.{Some, slice_get, Contains, refl, ap, ◌∙◌, arith, eqb, eq-eqb, ne_eqb}
use Rattle.std.proofs.lemmas.List.{length-append}
use Rattle.esto_steps.specs.declared.steps.Source.{Source}
use Rattle.esto_steps.specs.declared.steps.Source.TheVariants.{Code, Cell}
use Rattle.esto_steps.specs.Meaning.{code_at}
use Rattle.esto_steps.proofs.NamedLemmas.{front, back, lt_is, lt_not}
use Rattle.esto_exec.specs.Slots.{side_from, side_of, side_at, IsKnown}
use Rattle.esto_exec.specs.declared.slots.Slot.{Slot}
use Rattle.esto_exec.specs.declared.slots.Side.{Side}
use Rattle.esto_exec.specs.declared.slots.Side.TheVariants.{Constant, Held, Nothing}

-- ---- the choice with another row for one get

abbrev pub put : (ℕ → List ℕ) → ℕ → List ℕ → ℕ → List ℕ
put choice number row other = cond (eqb other number) row (choice other)

pub put-same : (choice : ℕ → List ℕ) (number : ℕ) (row : List ℕ) → put choice number row number ≡ row
put-same choice number row = ap (λ it. cond it row (choice number)) (eq-eqb number number refl)

pub put-other : (choice : ℕ → List ℕ) (number : ℕ) (row : List ℕ) (other : ℕ) → (other ≡ number → ⊥) → put choice number row other ≡ choice other
put-other choice number row other differs = ap (λ it. cond it row (choice other)) (ne_eqb other number differs)

-- ---- the rows of gets one after another

abbrev pub cells_from : (ℕ → List ℕ) → ℕ → ℕ → List ℕ
cells_from choice number zero = []
cells_from choice number (suc count) = choice number ++ cells_from choice (number + 1) count

-- the rows of the choice are as long as the arities say
abbrev pub AreLong : (ℕ → List ℕ) → ℕ → List ℕ → Type 0
AreLong choice number arities = (at arity : ℕ) → slice_get arities at ≡ Some arity → length (choice (number + at)) ≡ arity

long_rest : (choice : ℕ → List ℕ) (number first : ℕ) (rest : List ℕ) → AreLong choice number (first ∷ rest) → AreLong choice (number + 1) rest
long_rest choice number first rest long at arity is = ap (λ n. length (choice n)) (omega (arith)) ∙ long (suc at) arity is

pub side_reads : (choice : ℕ → List ℕ) (number : ℕ) (arities : List ℕ) (place : ℕ) → AreLong choice number arities
    → slice_get (cells_from choice number (length arities)) place ≡ side_at choice (side_from number arities place)
side_reads choice number [] place long = refl
side_reads choice number (arity ∷ rest) place long =
    by (side_reads choice (number + 1) rest (place - arity) (long_rest choice number arity rest long)) (nat_lt place arity) refl
  where
    here : length (choice number) ≡ arity
    here = ap (λ n. length (choice n)) (omega (arith)) ∙ long 0 arity refl

    by : slice_get (cells_from choice (number + 1) (length rest)) (place - arity) ≡ side_at choice (side_from (number + 1) rest (place - arity))
        → (answer : Bool) → nat_lt place arity ≡ answer
        → slice_get (choice number ++ cells_from choice (number + 1) (length rest)) place
        ≡ side_at choice (cond answer (Held (record { get = number; column = place })) (side_from (number + 1) rest (place - arity)))
    by later true is = front (choice number) (cells_from choice (number + 1) (length rest)) place (let less = lt_is place arity is in omega (arith, less, here))
    by later false is = back (choice number) (cells_from choice (number + 1) (length rest)) place (let past = lt_not place arity is in omega
        (arith, past, here))
        ∙ ap (λ n. slice_get (cells_from choice (number + 1) (length rest)) (place - n)) here
        ∙ later

-- a place that is a side is one of the cells
pub side_inside : (choice : ℕ → List ℕ) (number : ℕ) (arities : List ℕ) (place : ℕ) → AreLong choice number arities
    → side_from number arities place ≢ Nothing → place < length (cells_from choice number (length arities))
side_inside choice number [] place long something = absurd (something refl)
side_inside choice number (arity ∷ rest) place long something =
    let own : length (choice number) ≡ arity = ap (λ n. length (choice n)) (omega (arith)) ∙ long 0 arity refl in
    let all = length-append (choice number) (cells_from choice (number + 1) (length rest)) in
    by own all (side_inside choice (number + 1) rest (place - arity) (long_rest choice number arity rest long)) (nat_lt place arity) refl something
  where
    by : {own all later : ℕ} → own ≡ arity → all ≡ own + later → (side_from (number + 1) rest (place - arity) ≢ Nothing → place - arity < later)
        → (answer : Bool) → nat_lt place arity ≡ answer
        → cond answer (Held (record { get = number; column = place })) (side_from (number + 1) rest (place - arity)) ≢ Nothing → place < all
    by own all later true is some = let less = lt_is place arity is in omega (arith, less, own, all)
    by own all later false is some = let past = lt_not place arity is in let below = later some in omega (arith, past, below, own, all)

pub source_reads : (choice : ℕ → List ℕ) (arities : List ℕ) (source : Source) → AreLong choice 0 arities
    → code_at (cells_from choice 0 (length arities)) source ≡ side_at choice (side_of arities source)
source_reads choice arities (Code code) long = refl
source_reads choice arities (Cell place) long = side_reads choice 0 arities place long

-- a side is a cell of one of the gets
side_within : (number : ℕ) (arities : List ℕ) (place : ℕ) (slot : Slot) → side_from number arities place ≡ Held slot → slot.get < number + length arities
side_within number [] place slot is = absurd (cc)
side_within number (arity ∷ rest) place slot is = by (λ same. side_within (number + 1) rest (place - arity) slot same) (nat_lt place arity) is
  where
    by : (side_from (number + 1) rest (place - arity) ≡ Held slot → slot.get < number + 1 + length rest) → (answer : Bool)
        → cond answer (Held (record { get = number; column = place })) (side_from (number + 1) rest (place - arity)) ≡ Held slot
        → slot.get < number + suc (length rest)
    by later true same = let get_is : number ≡ slot.get = cc in omega (arith, get_is)
    by later false same = let below = later same in omega (arith, below)

pub known_before : (arities : List ℕ) (source : Source) (done : List ℕ) → ((number : ℕ) → number < length arities → Contains done number)
    → IsKnown done (side_of arities source)
known_before arities (Code code) done below = _
known_before arities (Cell place) done below = by (side_from 0 arities place) refl
  where
    by : (side : Side) → side_from 0 arities place ≡ side → IsKnown done side
    by (Constant code) is = _
    by Nothing is = _
    by (Held slot) is = below slot.get (let inside = side_within 0 arities place slot is in omega (arith, inside))
