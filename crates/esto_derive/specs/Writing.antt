-- Certificates that are written: a line for each entry that a match uses.
use Rattle.std.specs.Prelude.{◌≡◌, ◌≢◌, ◌⊎◌, ◌↔◌, ◌<◌, ◌+◌, ℕ, Bool, List, [], ◌∷◌, ◌++◌, Some, length, map, slice_get, Option, None, Contains, codes}
use Rattle.std.specs.List.{AllZip, flat_map}
use Rattle.esto_constraint.specs.Constraints.{rules_of}
use Rattle.esto_constraint.specs.declared.rule.Constraint.{Constraint}
use Rattle.esto_term.specs.declared.term.Term.{Term}
use Rattle.esto_semantics.specs.Facts.{terms_of}
use Rattle.esto_term.specs.Sets.{Has}
use Rattle.esto_semantics.specs.declared.fact.Fact.{Fact}
use Rattle.esto_chase_laws.specs.Derived.{AreDerived, Claims, IsEquality, IsNamed}
use Rattle.esto_chase_laws.specs.WorldMatches.{IsLike, Fits, match_map}
use Rattle.esto_chase_laws.specs.Worlds.{Linked}
use Rattle.esto_chase_laws.specs.declared.entry.Claim.{Claim}
use Rattle.esto_chase_laws.specs.declared.entry.Claim.TheVariants.{Fact as Stated, Same}
use Rattle.esto_chase_laws.specs.declared.entry.Entry.{Entry}
use Rattle.esto_mapping.specs.declared.catalogue.Catalogue.{Catalogue}
use Rattle.esto_query.specs.Making.{query_of}
use Rattle.esto_query.specs.declared.query.Query.{Query}
use Rattle.esto_views.specs.Expanded.{AreExpanded, Expands}
use Rattle.esto_semantics.specs.declared.expanded.ExpandedFact.{ExpandedFact}
use Rattle.esto_views.specs.declared.plan.Plan.{Plan}
use Rattle.esto_cert.specs.Certificates.{Case, MayEnd}
use Rattle.esto_cert.specs.Judging.{case_for}
use Rattle.esto_cert.specs.Showing.{AreLinesOf}
use Rattle.esto_cert.specs.declared.line.Line.{Line}
use Rattle.esto_cert.specs.declared.line.Line.TheVariants.{Match}
use Rattle.esto_derive.specs.Marking.{AreClosed, AreUsed, AreUsedWithin}
use Rattle.esto_derive.specs.Printing.{line_text, IsReadable}
use Rattle.esto_derive.specs.Reasons.{AreOfEntries, HasLine, IsBehind, IsNamedLater}
use Rattle.esto_derive.specs.declared.writing.Written.{Written}

-- The bytes are a certificate of the match that its last line states: one line for each entry that this match uses,
-- directly or through others, by that entry's reason. Each line before the last is named by a later one, and each of
-- their entries is in the world of the set.
pub record IsWritten (case : Case) (entries : List Entry) (bytes : List ℕ) : Type 0 where
  pub places : List ℕ
  pub lines : List Line
  pub claims : List Claim
  pub facts : List ℕ
  pub links : List ℕ
  pub are_lines : AreLinesOf bytes (lines ++ Match facts links ∷ [])
  pub are_of : AreOfEntries case entries places lines claims
  pub ends : MayEnd case claims (Match facts links)
  pub named : (place : ℕ) → place < length lines → IsNamedLater (lines ++ Match facts links ∷ []) place

-- The bytes are such a certificate for a set of a plan's atoms, by the plan's expansion over the catalogue's fragments.
abbrev pub IsWrittenFor : Catalogue → Query → Plan → List Bool → List Entry → List ℕ → Type 0
IsWrittenFor catalogue query plan set entries bytes =
    (expanded : List ExpandedFact) × AreExpanded catalogue.fragments 0 (length plan.names) plan.atoms expanded
    × Expands plan catalogue.fragments expanded × IsWritten (case_for plan set catalogue.rules query expanded) entries bytes

-- The bytes are such a certificate of a match of the query in the set's world, for all expanded facts from which the
-- entries are derived by the rules.
abbrev pub IsWrittenOf : List Bool → List Constraint → Query → List Term → List Entry → List ℕ → Type 0
IsWrittenOf set rules query targets entries bytes =
    (expanded : List ExpandedFact) → AreDerived expanded (rules_of rules) entries
    → IsWritten (record { expanded = expanded; set = set; rules = rules_of rules; query = query_of query; targets = targets }) entries bytes

-- ---- while it is written

-- One of the lines, which are counted from 0, makes the claim.
abbrev pub AtLines : List Claim → List ℕ → Claim → Type 0
AtLines claims lines claim = (line : ℕ) × Contains lines line × (slice_get claims line ≡ Some claim)

-- Each of the lines claims an equality.
abbrev pub AreEqualities : List Claim → List ℕ → Type 0
AreEqualities claims lines =
    (line : ℕ) → Contains lines line → (left : Term) × (right : Term) × (slice_get claims line ≡ Some (Same left right))

-- The lines stand for the claim: of a fact, one line makes it; of an equality, lines that claim equalities link its
-- sides.
abbrev pub StandFor : List Claim → List ℕ → Claim → Type 0
StandFor claims lines (Stated fact) = (line : ℕ) × (lines ≡ line ∷ []) × (slice_get claims line ≡ Some (Stated fact))
StandFor claims lines (Same left right) = AreEqualities claims lines × Linked (AtLines claims lines) left right

-- The lines of a place, where it has some.
abbrev pub own_lines : Option (List ℕ) → List ℕ
own_lines None = []
own_lines (Some own) = own

-- The lines that stand for the entries at the places, in order.
abbrev pub lines_at : List (List ℕ) → List ℕ → List ℕ
lines_at lines places = flat_map (λ place. own_lines (slice_get lines place)) places

-- The entries are derived, the used ones name used ones alone, and these are in the world of the set.
pub record IsBasis (case : Case) (entries : List Entry) (used : List Bool) : Type 0 where
  pub derived : AreDerived case.expanded case.rules entries
  pub closed : AreClosed entries used
  pub within : AreUsedWithin entries case.set used

-- The lines are those of all that stands for the entry at the place, and no others, where the lines are those of the
-- entries at `written`.
pub record AreOwn (entries : List Entry) (written : List ℕ) (place : ℕ) (lines : List ℕ) : Type 0 where
  pub all : (other : ℕ) → IsBehind entries place other → (line : ℕ) × Contains lines line × (slice_get written line ≡ Some other)
  pub only : (line : ℕ) → Contains lines line → (other : ℕ) × IsBehind entries place other × (slice_get written line ≡ Some other)

-- The places are those of the used entries among the first that have a line of their own.
pub record AreWritten (entries : List Entry) (used : List Bool) (count : ℕ) (written : List ℕ) : Type 0 where
  pub all : (place : ℕ) (entry : Entry) → place < count → slice_get entries place ≡ Some entry → Has used place → HasLine entry.reason → Contains written place
  pub only : (place : ℕ) → Contains written place → (place < count) × Has used place

-- What is written is the lines of the used entries for which lines are given, and these lines stand for their claims.
pub record IsState (case : Case) (entries : List Entry) (used : List Bool) (own_lines : List (List ℕ)) (written : Written) : Type 0 where
  pub places : List ℕ
  pub lines : List Line
  pub claims : List Claim
  pub text_is : written.text ≡ flat_map (λ line. line_text line ++ codes "\n") lines
  pub readable : (line : Line) → Contains lines line → IsReadable line
  pub counted : length claims ≡ written.count
  pub are_of : AreOfEntries case entries places lines claims
  pub are_written : AreWritten entries used (length own_lines) places
  pub stand : (place : ℕ) (entry : Entry) (own : List ℕ) → slice_get entries place ≡ Some entry → Has used place → slice_get own_lines place ≡ Some own
      → StandFor claims own entry.claim × AreOwn entries places place own

-- What is written goes on by the line of the next entry, which is used, so that the lines `own` stand for it.
abbrev pub Writes : List Constraint → List Entry → List Bool → List (List ℕ) → Written → Written → List ℕ → Type 0
Writes rules entries used lines old new own =
    (case : Case) → case.rules ≡ rules_of rules → IsBasis case entries used → Has used (length lines) → IsState case entries used lines old
    → IsState case entries used (lines ++ own ∷ []) new

-- What is written goes on so where the next entry is used; for any other entry all stays, and no line stands for it.
abbrev pub WritesIfUsed : List Constraint → List Entry → List Bool → List (List ℕ) → Written → Written → List ℕ → Type 0
WritesIfUsed rules entries used lines old new own =
    (Has used (length lines) × Writes rules entries used lines old new own) ⊎ (¬ (Has used (length lines)) × (new ≡ old) × (own ≡ []))

-- The lines of all used entries are written, and these are the lines that stand for each.
abbrev pub WritesAll : List Constraint → List Entry → List Bool → Written → List (List ℕ) → Type 0
WritesAll rules entries used written lines = (case : Case) → case.rules ≡ rules_of rules → IsBasis case entries used → IsState case entries used lines written

-- The entries at the places `facts` state facts that match the body, where terms that the entries at the places `links`
-- link count as one, and make the head, place by place, one with the targets.
pub record IsMatchAt (entries : List Entry) (head targets : List Term) (body : List (Fact Term)) (facts links : List ℕ) : Type 0 where
  pub chosen : List (Fact Term)
  pub stated : AllZip (λ (place : ℕ) (fact : Fact Term). Claims entries place (Stated fact)) facts chosen
  pub equalities : (place : ℕ) → Contains links place → IsEquality entries place
  pub alike : AllZip IsLike body chosen
  pub fits : Fits (Linked (IsNamed entries links)) (terms_of body) (terms_of chosen)
  pub heads : AllZip (Linked (IsNamed entries links)) targets (map (match_map body chosen) head)

-- The bytes are a certificate of each match of a case at these places, where the used entries are those that it uses.
abbrev pub WritesMatch : List Constraint → List Entry → List Bool → List ℕ → List ℕ → List ℕ → Type 0
WritesMatch rules entries used facts links bytes =
    (case : Case) → case.rules ≡ rules_of rules → IsBasis case entries used → case.query.body ≢ [] → AreUsed entries facts links used
    → IsMatchAt entries case.query.head case.targets case.query.body facts links → IsWritten case entries bytes

-- The numbers are the old ones and then those of the others that were not among them.
abbrev pub AddsNew : List ℕ → List ℕ → List ℕ → Type 0
AddsNew old more new = (number : ℕ) → Contains new number ↔ (Contains old number ⊎ Contains more number)

-- The text goes on by what is said of the numbers, counted from 1, of the lines that stand for the entries at the
-- places, each once.
abbrev pub GoesOnByLinks : List (List ℕ) → List ℕ → (List ℕ → List ℕ) → List ℕ → List ℕ → Type 0
GoesOnByLinks lines places said old new =
    (linked : List ℕ) × AddsNew [] (lines_at lines places) linked × (new ≡ old ++ said (map (λ line. line + 1) linked))

-- The terms of the fact that is claimed, and none of an equality.
abbrev pub claimed_terms : Claim → List Term
claimed_terms (Stated fact) = fact.terms
claimed_terms (Same left right) = []

-- The terms of the fact that an entry states; none of an equality, and none where there is no entry.
abbrev pub entry_terms : Option Entry → List Term
entry_terms None = []
entry_terms (Some entry) = claimed_terms entry.claim

-- The terms of the facts that the entries at the places state, in order.
abbrev pub terms_at : List Entry → List ℕ → List Term
terms_at entries places = flat_map (λ place. entry_terms (slice_get entries place)) places
