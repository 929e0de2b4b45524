-- Worlds: what a list of entries claims of a set of a plan's atoms. Source: the backchase with provenance (Ileana, Cautis, Deutsch and Katsis 2014), with
-- equalities as facts of their own.
use Rattle.std.specs.Prelude.{◌≡◌, ◌≢◌, ◌⊎◌, ⊤, ℕ, Bool, List, length, Contains}
use Rattle.std.specs.List.{AllZip}
use Rattle.esto_term.specs.declared.term.Term.{Term}
use Rattle.esto_term.specs.declared.term.Term.TheVariants.{Const}
use Rattle.esto_semantics.specs.Maps.{Keeps, SendsInto}
use Rattle.esto_semantics.specs.Rules.{Rule, tuple, equality, denial, MeetsInto}
use Rattle.esto_term.specs.Sets.{Within}
use Rattle.esto_semantics.specs.declared.fact.Fact.{Fact}
use Rattle.esto_chase_laws.specs.declared.entry.Claim.{Claim}
use Rattle.esto_chase_laws.specs.declared.entry.Claim.TheVariants.{Fact as Stated, Same}
use Rattle.esto_chase_laws.specs.declared.entry.Entry.{Entry}

-- The claim is in the world of the set: it is that of an entry whose product is a subset of the set.
abbrev pub InWorld : List Entry → List Bool → Claim → Type 0
InWorld entries atoms claim = (entry : Entry) × Contains entries entry × Within entry.product atoms × (entry.claim ≡ claim)

-- Each entry's product has this count.
abbrev pub AreOfCount : ℕ → List Entry → Type 0
AreOfCount count entries = (entry : Entry) → Contains entries entry → length entry.product ≡ count

-- The claim says that the two terms are one, in either order.
abbrev pub SaysOne : Claim → Term → Term → Type 0
SaysOne claim term other = (claim ≡ Same term other) ⊎ (claim ≡ Same other term)

-- Two terms are linked, so that they are one: a chain of equalities that hold leads from the one to the other.
pub data Linked (Holds : Claim → Type 0) : Term → Term → Type 0 where
  here : {term : Term} → Linked Holds term term
  along : {term next other : Term} → Holds (Same term next) → Linked Holds next other → Linked Holds term other
  back : {term next other : Term} → Holds (Same next term) → Linked Holds next other → Linked Holds term other

-- The facts are of one relation, and their terms are linked place by place.
abbrev pub AreOne : (Claim → Type 0) → Fact Term → Fact Term → Type 0
AreOne Holds fact other = (fact.relation ≡ other.relation) × AllZip (Linked Holds) fact.terms other.terms

-- The fact is one with a fact that holds.
abbrev pub Reaches : (Claim → Type 0) → Fact Term → Type 0
Reaches Holds fact = (other : Fact Term) × Holds (Stated other) × AreOne Holds other fact

-- What holds meets the rule, where terms that are linked count as one.
abbrev pub IsMetBy : (Claim → Type 0) → Rule → Type 0
IsMetBy Holds rule = MeetsInto Const (Linked Holds) (Reaches Holds) rule

-- The rule is no denial.
abbrev pub IsNoDenial : Rule → Type 0
IsNoDenial (tuple _ _) = ⊤
IsNoDenial (equality _ _ _) = ⊤
IsNoDenial (denial _) = ⊥

-- What holds is closed under the rules: it meets each of them that is no denial.
abbrev pub IsClosed : List Rule → (Claim → Type 0) → Type 0
IsClosed rules Holds = (rule : Rule) → Contains rules rule → IsNoDenial rule → IsMetBy Holds rule

-- The equalities make two different constants one.
abbrev pub IsBroken : (Claim → Type 0) → Type 0
IsBroken Holds = (text : List ℕ) × (other : List ℕ) × Linked Holds (Const text) (Const other) × (text ≢ other)

-- The body of a denial has a match in what holds.
abbrev pub IsDenied : List Rule → (Claim → Type 0) → Type 0
IsDenied rules Holds =
    (body : List (Fact Term)) × Contains rules (denial body)
    × ((m : Term → Term) × Keeps Const m × SendsInto m body (Reaches Holds))
