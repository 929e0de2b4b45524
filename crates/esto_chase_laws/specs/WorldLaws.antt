-- What entries say of every database, worlds as databases, bounds, and what a list of entries keeps.
use Rattle.std.specs.Prelude.{◌≡◌, ◌⊎◌, ◌↔◌, ℕ, ◌<◌, ◌≤◌, Bool, List, Some, map, length, take, slice_get, Contains}
use Rattle.std.specs.List.{AllZip}
use Rattle.esto_term.specs.Nesting.{nesting, greatest_u64}
use Rattle.esto_term.specs.declared.term.Term.{Term}
use Rattle.esto_term.specs.declared.term.Term.TheVariants.{Const, Plain}
use Rattle.esto_semantics.specs.Facts.{Database, image}
use Rattle.esto_semantics.specs.Containment.{IsContained}
use Rattle.esto_semantics.specs.Followed.{IsFollowedBy, IsGiven}
use Rattle.esto_semantics.specs.Maps.{AreFlat, IsFixedBy, Keeps, Sends, SendsInto}
use Rattle.esto_semantics.specs.Queries.{ConjunctiveQuery, IsQuery, IsAnswer}
use Rattle.esto_semantics.specs.Rules.{Rule, Meets, AreRules}
use Rattle.esto_term.specs.Sets.{Has}
use Rattle.esto_semantics.specs.declared.fact.Fact.{Fact}
use Rattle.esto_semantics.specs.declared.fact.Value.{Value}
use Rattle.esto_semantics.specs.declared.fact.Value.TheVariants.{Text, Node}
use Rattle.esto_chase_laws.specs.Bounds.{RanksRise}
use Rattle.esto_semantics.specs.Expanded.{facts_of}
use Rattle.esto_semantics.specs.declared.expanded.ExpandedFact.{ExpandedFact}
use Rattle.esto_chase_laws.specs.WorldBounds.{most_entries}
use Rattle.esto_chase_laws.specs.Worlds.{InWorld, AreOfCount, Linked, Reaches, IsClosed, IsBroken, IsDenied}
use Rattle.esto_chase_laws.specs.WorldMatches.{Touching, match_map, IsDirectMatch}
use Rattle.esto_chase_laws.specs.WorldSteps.{AreAnswered, AreJoined}
use Rattle.esto_chase_laws.specs.Derived.{AreDerived, AreNew, IsUnion}
use Rattle.esto_chase_laws.specs.declared.entry.Reason.{Reason}
use Rattle.esto_chase_laws.specs.declared.entry.Reason.TheVariants.{Expanded, Step, Equal}
use Rattle.esto_chase_laws.specs.declared.entry.Claim.{Claim}
use Rattle.esto_chase_laws.specs.declared.entry.Claim.TheVariants.{Fact as Stated, Same}
use Rattle.esto_chase_laws.specs.declared.entry.Entry.{Entry}

-- ---- what is given

-- Each expanded fact of an atom is a fact of each world that has the atom.
abbrev pub AreGiven : List ExpandedFact → List Entry → Type 0
AreGiven expanded entries =
    (fact : ExpandedFact) → Contains expanded fact → (atoms : List Bool) → Has atoms fact.atom → InWorld entries atoms (Stated fact.fact)

-- The facts, read as a set, are the expanded facts of the set's atoms.
abbrev pub AreFactsOf : List ExpandedFact → List Bool → List (Fact Term) → Type 0
AreFactsOf expanded atoms facts =
    (fact : Fact Term) → Contains facts fact ↔ ((given : ExpandedFact) × Contains expanded given × Has atoms given.atom × (given.fact ≡ fact))

-- ---- every database

-- The facts of the world, and what it links, as what follows the facts of the set's atoms: each valuation that sends these into a database which meets the
-- rules is followed by one that keeps constants, agrees with it on constants and variables, sends each fact of the world into the database, and gives linked
-- terms one value.
abbrev pub IsSound : List ExpandedFact → List Rule → List Entry → List Bool → Type 0
IsSound expanded rules entries atoms =
    (facts : List (Fact Term)) → AreFactsOf expanded atoms facts
    → IsFollowedBy rules facts (λ fact. InWorld entries atoms (Stated fact)) (Linked (InWorld entries atoms))

-- No valuation sends the facts of the set's atoms into a database that meets the rules.
abbrev pub IsReceivedNowhere : List ExpandedFact → List Rule → List Bool → Type 0
IsReceivedNowhere expanded rules atoms =
    (facts : List (Fact Term)) → AreFactsOf expanded atoms facts
    → (database : Database) → Meets rules database → (m : Term → Value) → Keeps Text m → ¬ (Sends m facts database)

-- Derived entries are sound.
abbrev pub DerivedEntriesAreSound : Type 0
DerivedEntriesAreSound =
    (expanded : List ExpandedFact) (rules : List Rule) (entries : List Entry) → AreRules rules → AreFlat (facts_of expanded)
    → AreDerived expanded rules entries → (atoms : List Bool) → IsSound expanded rules entries atoms

-- Where two different constants are one in a world of derived entries, or a denial's body has a match in it, no database that meets the rules receives the
-- facts of the set's atoms.
abbrev pub BrokenWorldsAreReceivedNowhere : Type 0
BrokenWorldsAreReceivedNowhere =
    (expanded : List ExpandedFact) (rules : List Rule) (entries : List Entry) → AreRules rules → AreFlat (facts_of expanded)
    → AreDerived expanded rules entries → (atoms : List Bool)
    → IsBroken (InWorld entries atoms) ⊎ IsDenied rules (InWorld entries atoms) → IsReceivedNowhere expanded rules atoms

-- ---- worlds

-- Where all that the rules and the links ask for among the entries is there, each world is closed.
abbrev pub CompleteEntriesAreClosed : Type 0
CompleteEntriesAreClosed =
    (rules : List Rule) (entries : List Entry) → AreRules rules → AreAnswered rules entries entries → AreJoined entries entries
    → (atoms : List Bool) → IsClosed rules (InWorld entries atoms)

-- The database is what holds, with one value for terms that are linked, the constant's text where one is among them and else an unnamed value of their own, and
-- different values for terms that are not linked.
pub record IsReadAs (Holds : Claim → Type 0) (database : Database) (value : Term → Value) : Type 0 where
  pub keeps : Keeps Text value
  pub one : (term other : Term) → Linked Holds term other → value term ≡ value other
  pub unnamed : (fact : Fact Term) (term : Term) → Holds (Stated fact) → Contains fact.terms term
      → ((text : List ℕ) × Linked Holds term (Const text)) ⊎ ((node : ℕ) × (value term ≡ Node node))
  pub apart : (fact other : Fact Term) (term other_term : Term) → Holds (Stated fact) → Holds (Stated other)
      → Contains fact.terms term → Contains other.terms other_term → value term ≡ value other_term → Linked Holds term other_term
  pub facts : (fact : Fact Term) → Holds (Stated fact) → Contains database (image value fact)
  pub from : (image_fact : Fact Value) → Contains database image_fact → (fact : Fact Term) × Holds (Stated fact) × (image value fact ≡ image_fact)

-- What holds is a database that meets the rules.
abbrev pub IsDatabase : List Rule → (Claim → Type 0) → Type 0
IsDatabase rules Holds = (database : Database) × (value : Term → Value) × IsReadAs Holds database value × Meets rules database

-- A closed world in which no two different constants are one and no denial's body has a match is a database that meets the rules.
abbrev pub ClosedWorldsAreDatabases : Type 0
ClosedWorldsAreDatabases =
    (rules : List Rule) (entries : List Entry) (atoms : List Bool) → AreRules rules → IsClosed rules (InWorld entries atoms)
    → ¬ (IsBroken (InWorld entries atoms)) → ¬ (IsDenied rules (InWorld entries atoms)) → IsDatabase rules (InWorld entries atoms)

-- ---- matches

-- Some map that keeps constants sends the body, up to links, to facts that hold, and makes the head, place by place, one with the targets.
abbrev pub HasMatch : (Claim → Type 0) → List Term → List (Fact Term) → List Term → Type 0
HasMatch Holds head body targets =
    (m : Term → Term) × Keeps Const m × SendsInto m body (Reaches Holds) × AllZip (Linked Holds) targets (map m head)

-- Some direct match of the body makes the head, place by place, touch the targets.
abbrev pub HasDirectMatch : (Claim → Type 0) → List Term → List (Fact Term) → List Term → Type 0
HasDirectMatch Holds head body targets =
    (chosen : List (Fact Term)) × IsDirectMatch Holds body chosen × AllZip (Touching Holds) targets (map (match_map body chosen) head)

-- Where links are joined, a world has a match exactly where it has a direct one.
abbrev pub MatchesAreDirect : Type 0
MatchesAreDirect =
    (entries : List Entry) (atoms : List Bool) (head : List Term) (body : List (Fact Term)) (targets : List Term) → AreJoined entries entries
    → ((term : Term) → Contains head term → IsFixedBy body term)
    → HasDirectMatch (InWorld entries atoms) head body targets ↔ HasMatch (InWorld entries atoms) head body targets

-- Each term of the start's head is a constant, a variable, or in its facts.
abbrev pub HasGivenHead : ConjunctiveQuery → Type 0
HasGivenHead start = (term : Term) → Contains start.head term → IsGiven start.body term

-- Let a start's facts be the expanded facts of the atoms. A sound world that has a match of a query's body whose head is, place by place, one with the start's
-- head shows that the start is contained in the query.
abbrev pub MatchesShowContainment : Type 0
MatchesShowContainment =
    (expanded : List ExpandedFact) (rules : List Rule) (entries : List Entry) (atoms : List Bool) (start query : ConjunctiveQuery)
    → AreFactsOf expanded atoms start.body → HasGivenHead start → IsSound expanded rules entries atoms
    → HasMatch (InWorld entries atoms) query.head query.body start.head → IsContained rules (IsAnswer start) (IsAnswer query)

-- A world that is closed too, has the start's facts, makes no two different constants one and has no match of a denial's body has such a match where the start
-- is contained in the query.
abbrev pub ContainmentShowsMatches : Type 0
ContainmentShowsMatches =
    (expanded : List ExpandedFact) (rules : List Rule) (entries : List Entry) (atoms : List Bool) (start query : ConjunctiveQuery)
    → AreRules rules → AreFactsOf expanded atoms start.body → HasGivenHead start → AreGiven expanded entries → IsSound expanded rules entries atoms
    → IsClosed rules (InWorld entries atoms) → ¬ (IsBroken (InWorld entries atoms)) → ¬ (IsDenied rules (InWorld entries atoms))
    → IsContained rules (IsAnswer start) (IsAnswer query) → HasMatch (InWorld entries atoms) query.head query.body start.head

-- ---- what claims rest on

-- The claim is about the term: it stands in the fact, or is a side of the equality.
abbrev pub IsAbout : Claim → Term → Type 0
IsAbout (Stated fact) term = Contains fact.terms term
IsAbout (Same left right) term = (left ≡ term) ⊎ (right ≡ term)

-- What is about some terms rests on the atoms: there is one, and each variable among these terms stands in an expanded fact of one of them.
pub record RestsOn (expanded : List ExpandedFact) (About : Term → Type 0) (atoms : List Bool) : Type 0 where
  pub some : (number : ℕ) × Has atoms number
  pub variables : (variable : ℕ) → About (Plain variable)
      → (fact : ExpandedFact) × Contains expanded fact × Has atoms fact.atom × Contains fact.fact.terms (Plain variable)

-- Each derived claim rests on the atoms of its product.
abbrev pub DerivedClaimsRestOnAtoms : Type 0
DerivedClaimsRestOnAtoms =
    (expanded : List ExpandedFact) (rules : List Rule) (entries : List Entry) → AreRules rules → AreDerived expanded rules entries
    → (entry : Entry) → Contains entries entry → RestsOn expanded (IsAbout entry.claim) entry.product

-- A match of a query in the world of some atoms, with its head one with the targets, rests on these atoms, with the variables among the targets.
abbrev pub MatchesRestOnAtoms : Type 0
MatchesRestOnAtoms =
    (expanded : List ExpandedFact) (rules : List Rule) (entries : List Entry) (atoms : List Bool) (query : ConjunctiveQuery) (targets : List Term)
    → AreRules rules → AreDerived expanded rules entries → IsQuery query → HasMatch (InWorld entries atoms) query.head query.body targets
    → RestsOn expanded (Contains targets) atoms

-- ---- bounds

-- A term in a fact that an entry claims nests no deeper than the rank of the fact's relation.
abbrev pub AreNestedWithin : (ℕ → ℕ) → List Entry → Type 0
AreNestedWithin rank entries =
    (entry : Entry) (fact : Fact Term) (term : Term) → Contains entries entry → entry.claim ≡ Stated fact → Contains fact.terms term
    → nesting term ≤ rank fact.relation

-- Under ranks that rise, the terms of derived facts nest within the ranks.
abbrev pub DerivedFactsNestWithinRanks : Type 0
DerivedFactsNestWithinRanks =
    (expanded : List ExpandedFact) (rules : List Rule) (entries : List Entry) (rank : ℕ → ℕ) → AreRules rules → AreFlat (facts_of expanded)
    → RanksRise rules rank → AreDerived expanded rules entries → AreNestedWithin rank entries

-- Under ranks that rise and are at most a depth, derived entries, none of which is covered by those before it, are no more than the bound for that depth.
abbrev pub DerivedEntriesAreFew : Type 0
DerivedEntriesAreFew =
    (expanded : List ExpandedFact) (rules : List Rule) (entries : List Entry) (rank : ℕ → ℕ) (depth count : ℕ) → AreRules rules
    → AreFlat (facts_of expanded) → RanksRise rules rank → ((relation : ℕ) → rank relation ≤ depth) → depth < greatest_u64
    → AreDerived expanded rules entries → AreNew entries → AreOfCount count entries
    → length entries ≤ most_entries rules (facts_of expanded) depth count

-- ---- what a list of entries keeps

-- The product is exactly what the reason names among the entries: the union of their products, or the one atom that is expanded.
abbrev pub IsReasoned : List Entry → List Bool → Reason → Type 0
IsReasoned entries product (Expanded atom place) = (number : ℕ) → Has product number ↔ (number ≡ atom)
IsReasoned entries product (Step rule places) = IsUnion entries places product
IsReasoned entries product (Equal places) = IsUnion entries places product

-- Each product is exactly what its reason names among the entries before it, and all products are of one count.
pub record AreReasoned (entries : List Entry) : Type 0 where
  pub reasoned : (place : ℕ) (entry : Entry) → slice_get entries place ≡ Some entry → IsReasoned (take place entries) entry.product entry.reason
  pub counted : (entry other : Entry) → Contains entries entry → Contains entries other → length entry.product ≡ length other.product

-- Derived entries of one count are so.
abbrev pub DerivedEntriesAreReasoned : Type 0
DerivedEntriesAreReasoned =
    (expanded : List ExpandedFact) (rules : List Rule) (entries : List Entry) (count : ℕ) → AreDerived expanded rules entries
    → AreOfCount count entries → AreReasoned entries
