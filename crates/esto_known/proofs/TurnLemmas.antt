-- The turns in which entries are added.
use Rattle.std.proofs.Common.{◌≡◌, ◌≤◌, ◌+◌, inl, inr, ℕ, List, [], ◌∷◌, ◌++◌, Contains, sym, subst, arith}
use Rattle.std.proofs.lemmas.Bool.{cases_order}
use Rattle.std.proofs.lemmas.List.Elements.{Contains-append_left, Contains-push}
use Rattle.std.proofs.lemmas.List.Sorted.{Contains-permutation}
use Rattle.std.specs.List.Sorted.{IsPermutation}
use Rattle.esto_known.specs.Turns.{AreTurnsOf}
use Rattle.esto_known.specs.declared.turns.Turn.{Turn}

pub turns_none : (turns : List Turn) → AreTurnsOf 0 turns
turns_none turns place below = absurd (omega (arith, below))

-- one turn more
pub turns_more : (turns later : List Turn) (turn : Turn) → later ≡ turns ++ turn ∷ [] → AreTurnsOf turn.place turns → AreTurnsOf (turn.place + 1) later
turns_more turns later turn is so_far place below = elim (cases_order place turn.place) [
  | inl same ↦ (turn, subst (λ it. Contains it turn) (sym is) (Contains-push turns turn), sym same)
  | inr apart ↦ elim apart [
    | inl lower ↦ let found = so_far place lower in
        (found.0, subst (λ it. Contains it found.0) (sym is) (Contains-append_left turns (turn ∷ []) found.0 found.1), found.2)
    | inr above ↦ absurd (omega (arith, below, above))
  ]
]

pub turns_moved : (count : ℕ) (turns sorted : List Turn) → IsPermutation turns sorted → AreTurnsOf count turns → AreTurnsOf count sorted
turns_moved count turns sorted moved all place below = let found = all place below in
    (found.0, Contains-permutation turns sorted found.0 moved found.1, found.2)

pub turns_all : (count fewer : ℕ) (turns : List Turn) → fewer ≤ count → AreTurnsOf count turns → AreTurnsOf fewer turns
turns_all count fewer turns past all place below = all place (omega (arith, below, past))
