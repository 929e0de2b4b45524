-- Ways to match the first atoms of a body, with the entries that they use.
use Rattle.std.specs.Prelude.{◌≡◌, ◌⊎◌, ◌<◌, ℕ, Bool, List, [], ◌∷◌, ◌++◌, length, map, replicate, false, take, Contains, Option, Some, slice_get}
use Rattle.std.specs.List.{AllZip}
use Rattle.std.specs.Prelude.{◌==◌, cond}
use Rattle.esto_term.specs.declared.term.Term.{Term}
use Rattle.esto_term.specs.Sets.{Within}
use Rattle.esto_semantics.specs.declared.fact.Fact.{Fact}
use Rattle.esto_chase_laws.specs.Worlds.{InWorld}
use Rattle.esto_semantics.specs.Facts.{terms_of}
use Rattle.esto_chase_laws.specs.WorldMatches.{IsLike, taken, Touching, Fits, IsDirectMatch}
use Rattle.esto_chase_laws.specs.Derived.{Claims, IsNamed, IsUnion, IsEquality}
use Rattle.esto_chase_laws.specs.declared.entry.Claim.TheVariants.{Fact as Stated}
use Rattle.esto_chase_laws.specs.declared.entry.Entry.{Entry}
use Rattle.esto_condchase.specs.declared.passing.Support.{Support}
use Rattle.esto_known.specs.declared.way.Way.{Way}
use Rattle.esto_known.specs.KeptWays.{HasWay, IsOldWay}
use Rattle.esto_known.specs.Live.{IsFreeLink}

-- The way that has matched nothing.
abbrev pub empty_way : ℕ → Way
empty_way count = record { to = []; facts = []; links = []; product = replicate count false }

-- The way with a fact more, of the entry at a place, whose terms go through with a support.
abbrev pub extended : Way → ℕ → List Term → Support → Way
extended way place owns support =
    record { to = way.to ++ owns; facts = way.facts ++ place ∷ []; links = support.links; product = support.product }

-- The way has these facts; the terms `from` of the atoms so far meet the terms `to`, by its links, which are equalities; and its product is exactly the union
-- of what it uses.
pub record IsWay (entries : List Entry) (facts : List ℕ) (from to : List Term) (way : Way) : Type 0 where
  pub lengths : length from ≡ length to
  pub facts_are : way.facts ≡ facts
  pub to_is : way.to ≡ to
  pub fits : Fits (Touching (IsNamed entries way.links)) from to
  pub equalities : (place : ℕ) → Contains way.links place → IsEquality entries place
  pub union : IsUnion entries (way.facts ++ way.links) way.product

-- Each of the terms meets the same first, whether those of `from` have met `to` or the others.
abbrev pub AgreeOn : List Term → List Term → List Term → List Term → Type 0
AgreeOn terms from to others = (term : Term) → Contains terms term → taken from to term ≡ taken from others term

-- The new list has all of the old one, and what it has more is so.
pub record Grown {X : Type 0} (Comes : X → Type 0) (old new : List X) : Type 0 where
  pub kept : (thing : X) → Contains old thing → Contains new thing
  pub come : (thing : X) → Contains new thing → Contains old thing ⊎ Comes thing

-- The two sides, which are of `from`, meet terms that are one in the set's world.
abbrev pub MeetOne : List Entry → List Term → List Term → List Term → List Bool → Type 0
MeetOne entries sides from to set = (left : Term) × (right : Term) × (sides ≡ left ∷ right ∷ []) × Contains from left × Contains from right
    × Touching (InWorld entries set) (taken from to left) (taken from to right)

-- What stands at the two places is one in the set's world.
abbrev pub AreOneAt : List Entry → Option (ℕ × ℕ) → List Term → List Bool → Type 0
AreOneAt entries sides to set = (left : ℕ) × (right : ℕ) × (sides ≡ Some (left, right)) × (own : Term) × (other : Term)
    × (slice_get to left ≡ Some own) × (slice_get to right ≡ Some other) × Touching (InWorld entries set) own other

-- Some way tells it, with a product within the set; or what stands at the two sides' places is one already in the set's world, so that nothing is owed.
abbrev pub IsTold : List Entry → Option (ℕ × ℕ) → List ℕ → List Way → List Term → List Bool → Type 0
IsTold entries sides places ways to set = HasWay places ways to set ⊎ AreOneAt entries sides to set

-- Some support has a product within the set.
abbrev pub HasSupport : List Support → List Bool → Type 0
HasSupport supports set = (support : Support) × Contains supports support × Within support.product set

-- What the terms of an atom and of a fact meet first, where they stand behind `from` and what these have met.
abbrev pub meets : List Term → List Term → List Term → List Term → Term → Term
meets from terms to owns = taken (from ++ terms) (to ++ owns)

-- In the set's world the two terms are one by an equality of an entry from a place on.
abbrev pub IsLinkedFrom : List Entry → ℕ → List Bool → Term → Term → Type 0
IsLinkedFrom entries floor set own goal = (place : ℕ) × IsFreeLink entries floor own goal set place

-- The two terms are equal, or one by such an equality.
abbrev pub TouchesFrom : List Entry → ℕ → List Bool → Term → Term → Type 0
TouchesFrom entries floor set own goal = (own ≡ goal) ⊎ IsLinkedFrom entries floor set own goal

-- At one place of a row a least place is asked for, else none.
abbrev pub floor_of : ℕ → ℕ → ℕ → ℕ
floor_of at floor index = cond (index == at) floor 0

-- Each of the first few of a fact's terms is one with what it has to meet; at one of them by an equality from a place on.
abbrev pub PassesTo : List Entry → (Term → Term) → List Term → List Term → ℕ → ℕ → List Bool → ℕ → Type 0
PassesTo entries m terms owns at floor set count = (index : ℕ) (own term : Term) → index < count
    → slice_get owns index ≡ Some own → slice_get terms index ≡ Some term → TouchesFrom entries (floor_of at floor index) set own (m term)

-- Each of the fact's terms is one with what it has to meet, in the set's world.
abbrev pub PassesIn : List Entry → (Term → Term) → List Term → List Term → List Bool → Type 0
PassesIn entries m terms owns set = AllZip (Touching (InWorld entries set)) owns (map m terms)

-- In each set's world in which each of a fact's terms is one with what it has to meet, and this one by an equality from a place on, it is settled.
abbrev pub IsPassedAt : List Entry → (Term → Term) → List Term → List Term → ℕ → List Bool → (List Bool → Type 0) → ℕ → Type 0
IsPassedAt entries m terms owns floor product Settled at = (set : List Bool) (own term : Term) → Within product set → PassesIn entries m terms owns set
    → slice_get owns at ≡ Some own → slice_get terms at ≡ Some term → ¬ (own ≡ m term) → IsLinkedFrom entries floor set own (m term) → Settled set

-- The support goes on from an earlier one by what makes two terms one.
pub record IsLonger (entries : List Entry) (own goal : Term) (before support : Support) : Type 0 where
  pub kept : (place : ℕ) → Contains before.links place → Contains support.links place
  pub touch : Touching (IsNamed entries support.links) own goal
  pub equalities : ((place : ℕ) → Contains before.links place → IsEquality entries place)
      → (place : ℕ) → Contains support.links place → IsEquality entries place
  pub union : (facts : List ℕ) → IsUnion entries (facts ++ before.links) before.product → IsUnion entries (facts ++ support.links) support.product
  pub count : length support.product ≡ length before.product

-- The support goes on from the start by what makes each of the first few of a fact's terms one with what it has to meet.
pub record IsSupport (entries : List Entry) (m : Term → Term) (terms owns : List Term) (start : Support) (few : ℕ) (support : Support) : Type 0 where
  pub kept : (place : ℕ) → Contains start.links place → Contains support.links place
  pub touch : (index : ℕ) (own term : Term) → index < few → slice_get owns index ≡ Some own → slice_get terms index ≡ Some term
      → Touching (IsNamed entries support.links) own (m term)
  pub equalities : ((place : ℕ) → Contains start.links place → IsEquality entries place) → (place : ℕ) → Contains support.links place → IsEquality entries place
  pub union : (facts : List ℕ) → IsUnion entries (facts ++ start.links) start.product → IsUnion entries (facts ++ support.links) support.product
  pub count : length support.product ≡ length start.product

-- The later supports go on from the given ones by what makes two terms one: in each set's world one of them does, or it is settled already.
pub record AreLonger (entries : List Entry) (own goal : Term) (floor : ℕ) (Settled : List Bool → Type 0) (given later : List Support) : Type 0 where
  pub come : (support : Support) → Contains later support → (before : Support) × Contains given before × IsLonger entries own goal before support
  pub go_on : (set : List Bool) (before : Support) → Contains given before → Within before.product set → TouchesFrom entries floor set own goal
      → HasSupport later set ⊎ Settled set

-- The supports go on from the start by the first few of a fact's terms: in each set's world one of them does, or it is settled already.
pub record AreSupports (entries : List Entry) (m : Term → Term) (terms owns : List Term) (at floor : ℕ) (Settled : List Bool → Type 0) (start : Support)
    (few : ℕ) (supports : List Support) : Type 0 where
  pub come : (support : Support) → Contains supports support → IsSupport entries m terms owns start few support
  pub go_on : (set : List Bool) → Within start.product set → PassesTo entries m terms owns at floor set few → HasSupport supports set ⊎ Settled set

-- The way goes on from an earlier one with the fact of the entry at a place.
abbrev pub ComesBy : List Entry → List Term → List Term → Way → ℕ → List Term → Way → Type 0
ComesBy entries from terms before place owns way = (way.to ≡ before.to ++ owns) × ((facts : List ℕ) (to : List Term) → IsWay entries facts from to before
    → IsWay entries (facts ++ place ∷ []) (from ++ terms) (to ++ owns) way)

-- The way goes on from an earlier one with a fact for the atom.
abbrev pub Comes : List Entry → List Term → Fact Term → Way → Way → Type 0
Comes entries from atom before way = (place : ℕ) × (fact : Fact Term) × Claims entries place (Stated fact) × IsLike atom fact
    × ComesBy entries from atom.terms before place fact.terms way

-- The first few entries alone let the way go on with the fact, in the set's world.
abbrev pub GoesOld : List Entry → ℕ → List Term → Fact Term → Way → Fact Term → List Bool → Type 0
GoesOld entries since from atom before fact set = IsOldWay since before × InWorld (take since entries) set (Stated fact)
    × PassesIn (take since entries) (meets from atom.terms before.to fact.terms) atom.terms fact.terms set

-- Where the way goes on with a fact in a set's world, one of the ways does so, as far as the places tell, or nothing is owed, or the first few entries alone
-- let it.
abbrev pub GoesOn : List Entry → ℕ → List Term → Fact Term → Option (ℕ × ℕ) → List ℕ → Way → List Way → Type 0
GoesOn entries since from atom sides places before ways = (set : List Bool) (fact : Fact Term) → Within before.product set
    → InWorld entries set (Stated fact) → IsLike atom fact
    → PassesIn entries (meets from atom.terms before.to fact.terms) atom.terms fact.terms set
    → IsTold entries sides places ways (before.to ++ fact.terms) set ⊎ GoesOld entries since from atom before fact set

-- The ways are given ones with a fact for one atom more, as far as they tell what the live terms meet, but for those by which the two sides are one already,
-- and for those that use the first few entries alone.
pub record AreNext (entries : List Entry) (since : ℕ) (from : List Term) (atom : Fact Term) (live sides : List Term) (given ways : List Way) : Type 0 where
  pub come : (way : Way) → Contains ways way → (before : Way) × Contains given before × Comes entries from atom before way
  pub go_on : (set : List Bool) (before : Way) (fact : Fact Term) → Contains given before → length from ≡ length before.to → Within before.product set
      → InWorld entries set (Stated fact) → IsLike atom fact → PassesIn entries (meets from atom.terms before.to fact.terms) atom.terms fact.terms set
      → ((way : Way) × Contains ways way × AgreeOn live (from ++ atom.terms) way.to (before.to ++ fact.terms) × Within way.product set)
      ⊎ (MeetOne entries sides (from ++ atom.terms) (before.to ++ fact.terms) set ⊎ GoesOld entries since from atom before fact set)

-- The way is a direct match of the body among the entries.
pub record IsFound (entries : List Entry) (body : List (Fact Term)) (way : Way) : Type 0 where
  pub chosen : List (Fact Term)
  pub stated : AllZip (λ (place : ℕ) (fact : Fact Term). Claims entries place (Stated fact)) way.facts chosen
  pub alike : AllZip IsLike body chosen
  pub is_way : IsWay entries way.facts (terms_of body) (terms_of chosen) way

-- The ways are direct matches of the body, and in each world each direct match agrees with one of them on the live terms, or the two sides meet terms that are
-- one already.
pub record AreFound (entries : List Entry) (body : List (Fact Term)) (live sides : List Term) (ways : List Way) : Type 0 where
  pub sound : (way : Way) → Contains ways way → IsFound entries body way
  pub complete : (atoms : List Bool) (chosen : List (Fact Term)) → IsDirectMatch (InWorld entries atoms) body chosen
      → ((way : Way) × Contains ways way × AgreeOn live (terms_of body) way.to (terms_of chosen) × Within way.product atoms)
      ⊎ MeetOne entries sides (terms_of body) (terms_of chosen) atoms
