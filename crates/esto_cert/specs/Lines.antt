-- What the bytes of a line of a certificate say.
use Rattle.std.specs.Prelude.{◌==◌, ◌&&◌, ℕ, ◌+◌, ◌*◌, ◌-◌, nat_le, nat_eq, Bool, if◌then◌else◌, List, [], ◌∷◌, Option, Some, None, codes}
use Rattle.std.specs.Cmp.Lexicographic.{pointwise}
use Rattle.std.specs.List.{slice_split}
use Rattle.esto_cert.specs.declared.line.Line.{Line}
use Rattle.esto_cert.specs.declared.line.Line.TheVariants.{Expanded, Step, Match}

-- The number that digits write in decimal after those of a value.
abbrev pub number_after : ℕ → List ℕ → Option ℕ
number_after value [] = Some value
number_after value (byte ∷ rest) = if nat_le 48 byte && nat_le byte 57 then number_after (value * 10 + (byte - 48)) rest else None

-- The number that the bytes write in decimal, without a leading zero.
abbrev pub number_of : List ℕ → Option ℕ
number_of [] = None
number_of (byte ∷ []) = number_after 0 (byte ∷ [])
number_of (byte ∷ second ∷ rest) = if byte == 48 then None else number_after 0 (byte ∷ second ∷ rest)

-- The item before the items, where all are there.
abbrev pub with_item : {A : Type 0} → Option A → Option (List A) → Option (List A)
with_item None items = None
with_item (Some item) None = None
with_item (Some item) (Some items) = Some (item ∷ items)

-- The numbers that the parts write, where each writes one.
abbrev pub numbers_of : List (List ℕ) → Option (List ℕ)
numbers_of [] = Some []
numbers_of (part ∷ parts) = with_item (number_of part) (numbers_of parts)

-- The numbers of a list: they are parted by commas.
abbrev pub list_of : List ℕ → Option (List ℕ)
list_of word = numbers_of (slice_split (λ byte. byte == 44) word)

-- The word is this one.
abbrev pub is_word : List ℕ → List ℕ → Bool
is_word word name = pointwise nat_eq word name

-- The numbers of a list, or none where a minus stands in its place.
abbrev pub links_of : List ℕ → Option (List ℕ)
links_of word = if is_word word (codes "-") then Some [] else list_of word

-- A fact's line with these numbers, where both are there.
abbrev pub expanded_of : Option ℕ → Option ℕ → Option Line
expanded_of (Some atom) (Some place) = Some (Expanded atom place)
expanded_of (Some atom) None = None
expanded_of None place = None

-- A match's line with these lists, where both are there.
abbrev pub match_of : Option (List ℕ) → Option (List ℕ) → Option Line
match_of (Some facts) (Some links) = Some (Match facts links)
match_of (Some facts) None = None
match_of None links = None

-- A step's line with these numbers and lists, where all are there.
abbrev pub step_of : Option ℕ → Option ℕ → Option (List ℕ) → Option (List ℕ) → Option Line
step_of (Some number) (Some place) (Some facts) (Some links) = Some (Step number place facts links)
step_of (Some number) (Some place) (Some facts) None = None
step_of (Some number) (Some place) None links = None
step_of (Some number) None facts links = None
step_of None place facts links = None

-- What words say: fact A P, step R H F E, or match F E.
abbrev pub line_of_words : List (List ℕ) → Option Line
line_of_words (verb ∷ first ∷ second ∷ []) =
    if is_word verb (codes "fact") then expanded_of (number_of first) (number_of second)
    else if is_word verb (codes "match") then match_of (list_of first) (links_of second)
    else None
line_of_words (verb ∷ rule ∷ place ∷ facts ∷ links ∷ []) =
    if is_word verb (codes "step") then step_of (number_of rule) (number_of place) (list_of facts) (links_of links) else None
line_of_words _ = None

-- What a line says: its words are parted by single spaces.
abbrev pub line_of : List ℕ → Option Line
line_of bytes = line_of_words (slice_split (λ byte. byte == 32) bytes)
