-- What the words of a command line ask for, by how many there are.
use Rattle.std.proofs.Common.{◌≡◌, ◌+◌, ◌<◌, ◌≤◌, ℕ, List, [], ◌∷◌, drop, length, get_or, Option, None, refl, ap, ◌∙◌, arith}
use Rattle.std.specs.Prelude.{MatchOption}
use Rattle.std.proofs.lemmas.List.{drop_all}
use Rattle.esto_term.proofs.PlaceLemmas.{drop-item}
use Rattle.esto_top.specs.Grammar.{asked, request_of}
use Rattle.esto_top.specs.declared.command.Command.{Command}

-- the command is what the words ask for, or they ask for nothing
abbrev pub IsCommandOf : Option Command → List (List ℕ) → Type 0
IsCommandOf found words = MatchOption found (request_of words ≡ None) (λ command. request_of words ≡ asked command)

-- these are read one after another from a place on
abbrev pub AreRead : List (List ℕ) → ℕ → List (List ℕ) → Type 0
AreRead words place [] = Unit {0}
AreRead words place (word ∷ rest) = (word ≡ get_or words place word) × AreRead words (place + 1) rest

-- where no more are left, they are the words from the place on
pub all_read : (words read : List (List ℕ)) (place : ℕ) → length words ≡ place + length read → AreRead words place read → drop place words ≡ read
all_read words [] place count are = drop_all place words (omega (arith, count))
all_read words (word ∷ rest) place count are =
    drop-item words place word (omega (arith, count)) are.0 ∙ ap (λ it. word ∷ it) (all_read words rest (place + 1) (omega (arith, count)) are.1)

-- one word, or none, asks for nothing
pub few : (words : List (List ℕ)) → length words < 2 → request_of words ≡ None
few [] less = refl
few (verb ∷ []) less = refl
few (verb ∷ first ∷ rest) less = absurd (omega (arith, less))

-- and so do six words and more
pub many : (words : List (List ℕ)) → 6 ≤ length words → request_of words ≡ None
many [] more = absurd (omega (arith, more))
many (verb ∷ []) more = absurd (omega (arith, more))
many (verb ∷ first ∷ []) more = absurd (omega (arith, more))
many (verb ∷ first ∷ second ∷ []) more = absurd (omega (arith, more))
many (verb ∷ first ∷ second ∷ third ∷ []) more = absurd (omega (arith, more))
many (verb ∷ first ∷ second ∷ third ∷ fourth ∷ []) more = absurd (omega (arith, more))
many (verb ∷ first ∷ second ∷ third ∷ fourth ∷ fifth ∷ rest) more = refl
