-- What the reader makes of a line's numbers, which it keeps in 64 bits.
use Rattle.std.specs.Prelude.{◌≡◌, nat_le, ℕ, if◌then◌else◌, List, [], ◌∷◌, Option, Some, None, option_map}
use Rattle.esto_term.specs.Nesting.{greatest_u64}
use Rattle.esto_term.specs.declared.term.Term.{Term}
use Rattle.esto_semantics.specs.Rules.{Rule, tuple, equality, denial}
use Rattle.esto_semantics.specs.declared.fact.Fact.{Fact}
use Rattle.esto_cert.specs.Lines.{with_item, expanded_of, match_of, step_of}
use Rattle.esto_cert.specs.declared.line.Line.{Line}
use Rattle.esto_cert.specs.declared.line.Line.TheVariants.{Expanded, Step, Match}

-- The atoms of a tuple rule's head; of any other rule none.
abbrev pub head_atoms : Rule → List (Fact Term)
head_atoms (tuple body head) = head
head_atoms (equality body left right) = []
head_atoms (denial body) = []

-- The number, and for all that are above the numbers of 64 bits the first of these.
abbrev pub capped : ℕ → ℕ
capped number = if nat_le number greatest_u64 then number else 18446744073709551616

-- The number, and for all that are above the numbers of 64 bits the greatest of 64 bits.
abbrev pub nearest : ℕ → ℕ
nearest number = if nat_le number greatest_u64 then number else greatest_u64

-- The number, where it is one of 64 bits.
abbrev pub within : Option ℕ → Option ℕ
within None = None
within (Some number) = if nat_le number greatest_u64 then Some number else None

-- The numbers, where each is one of 64 bits.
abbrev pub all_within : List ℕ → Option (List ℕ)
all_within [] = Some []
all_within (number ∷ numbers) = with_item (within (Some number)) (all_within numbers)

-- The same of numbers that may be wanting.
abbrev pub list_within : Option (List ℕ) → Option (List ℕ)
list_within None = None
list_within (Some numbers) = all_within numbers

-- The line, where its numbers are of 64 bits, but for a place of a rule's head: in its stead stands the nearest that is.
abbrev pub line_within : Option Line → Option Line
line_within None = None
line_within (Some (Expanded atom place)) = expanded_of (within (Some atom)) (within (Some place))
line_within (Some (Step number place facts links)) =
    step_of (within (Some number)) (option_map nearest (Some place)) (list_within (Some facts)) (list_within (Some links))
line_within (Some (Match facts links)) = match_of (list_within (Some facts)) (list_within (Some links))

-- The line that was read stands for the one that was said: they are one, but for a place of a rule's head.
abbrev pub StandsFor : Line → Line → Type 0
StandsFor (Expanded atom place) said = said ≡ Expanded atom place
StandsFor (Step number place facts links) said = (its : ℕ) × (nearest its ≡ place) × (said ≡ Step number its facts links)
StandsFor (Match facts links) said = said ≡ Match facts links
