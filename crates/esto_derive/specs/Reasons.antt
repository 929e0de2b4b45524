-- Lines of entries, each by its entry's reason.
use Rattle.std.specs.Prelude.{◌≡◌, ⊤, ℕ, ◌+◌, Bool, List, [], ◌++◌, Some, slice_get, Contains, AllPairs, ◌<◌}
use Rattle.std.specs.List.{AllZip}
use Rattle.esto_term.specs.Sets.{Within}
use Rattle.esto_chase_laws.specs.Derived.{Claims}
use Rattle.esto_chase_laws.specs.declared.entry.Claim.{Claim}
use Rattle.esto_chase_laws.specs.declared.entry.Entry.{Entry}
use Rattle.esto_chase_laws.specs.declared.entry.Reason.{Reason}
use Rattle.esto_chase_laws.specs.declared.entry.Reason.TheVariants as reason
use Rattle.esto_cert.specs.Certificates.{Case, numbered}
use Rattle.esto_cert.specs.Showing.{AreClaimsOf}
use Rattle.esto_cert.specs.declared.line.Line.{Line}
use Rattle.esto_cert.specs.declared.line.Line.TheVariants.{Expanded, Step, Match}

-- An entry with the reason has a line of its own: it is no chain of equalities.
abbrev pub HasLine : Reason → Type 0
HasLine (reason.Expanded atom place) = ⊤
HasLine (reason.Step number places) = ⊤
HasLine (reason.Equal places) = ⊥

-- In a certificate the entry at the second place stands for that at the first: it is the same and has a line, or the
-- first is a chain of equalities, and it stands for one of these.
pub data IsBehind (entries : List Entry) : ℕ → ℕ → Type 0 where
  itself : {place : ℕ} {entry : Entry} → slice_get entries place ≡ Some entry → HasLine entry.reason → IsBehind entries place place
  through : {place named other : ℕ} {entry : Entry} {places : List ℕ} → slice_get entries place ≡ Some entry → entry.reason ≡ reason.Equal places
      → Contains places named → IsBehind entries named other → IsBehind entries place other

-- Where the lines are those of the entries at `written`, the numbers `facts` and `links` name what is at the places:
-- first facts, each by the number of its own line, in order; and then equalities, by the numbers of the lines of all
-- that stands for them, and of no others.
pub record AreNamedBy (entries : List Entry) (written places facts links : List ℕ) : Type 0 where
  pub stated : List ℕ
  pub equal : List ℕ
  pub in_order : places ≡ stated ++ equal
  pub facts_are : AllZip (λ (place : ℕ) (number : ℕ). numbered written number ≡ Some place) stated facts
  pub links_all : (place other : ℕ) → Contains equal place → IsBehind entries place other
      → (number : ℕ) × Contains links number × (numbered written number ≡ Some other)
  pub links_only : (number : ℕ) → Contains links number
      → (place : ℕ) × (other : ℕ) × Contains equal place × IsBehind entries place other × (numbered written number ≡ Some other)

-- The line says the reason, where the lines are those of the entries at `written`: the expanded fact, or the step by
-- the rule from what the reason names. A chain of equalities has no line.
abbrev pub SaysReason : List Entry → List ℕ → Reason → Line → Type 0
SaysReason entries written (reason.Expanded atom place) line = line ≡ Expanded (atom + 1) (place + 1)
SaysReason entries written (reason.Step number places) line =
    (head : ℕ) × (facts : List ℕ) × (links : List ℕ) × (line ≡ Step (number + 1) head facts links) × AreNamedBy entries written places facts links
SaysReason entries written (reason.Equal places) line = ⊥

-- The entry at the place is in the world of the set, and the line says its reason.
abbrev pub IsLineOf : List Entry → List Bool → List ℕ → ℕ → Line → Type 0
IsLineOf entries set written place line =
    (entry : Entry) × (slice_get entries place ≡ Some entry) × Within entry.product set × SaysReason entries written entry.reason line

-- The lines are those of the entries at the places, each once and in order: they make these claims, which are the
-- entries', and say the entries' reasons.
pub record AreOfEntries (case : Case) (entries : List Entry) (places : List ℕ) (lines : List Line) (claims : List Claim) : Type 0 where
  pub rising : AllPairs ◌<◌ places
  pub says : AllZip (IsLineOf entries case.set places) places lines
  pub claimed : AllZip (Claims entries) places claims
  pub are_claims : AreClaimsOf case lines claims

-- The numbers of lines that the line names.
abbrev pub named_in : Line → List ℕ
named_in (Expanded atom place) = []
named_in (Step number place facts links) = facts ++ links
named_in (Match facts links) = facts ++ links

-- A later one of the lines names the one that has that many before it.
abbrev pub IsNamedLater : List Line → ℕ → Type 0
IsNamedLater lines place = (later : ℕ) × (line : Line) × (place < later) × (slice_get lines later ≡ Some line) × Contains (named_in line) (place + 1)
