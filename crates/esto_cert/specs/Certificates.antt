-- Certificates: which lines are allowed after which others, and which files are accepted.
use Rattle.std.specs.Prelude.{◌≡◌, ◌==◌, ℕ, ◌+◌, ◌-◌, Bool, cond, List, [], ◌∷◌, Option, Some, None, map, slice_get, Contains, option_map}
use Rattle.std.specs.List.{AllZip}
use Rattle.esto_term.specs.declared.term.Term.{Term}
use Rattle.esto_semantics.specs.Facts.{image}
use Rattle.esto_semantics.specs.Queries.{ConjunctiveQuery}
use Rattle.esto_semantics.specs.Rules.{Rule, tuple, equality, denial, body_of}
use Rattle.esto_term.specs.Sets.{Has}
use Rattle.esto_semantics.specs.declared.fact.Fact.{Fact}
use Rattle.esto_chase_laws.specs.Making.{extended}
use Rattle.esto_semantics.specs.declared.expanded.ExpandedFact.{ExpandedFact}
use Rattle.esto_chase_laws.specs.Worlds.{Linked}
use Rattle.esto_chase_laws.specs.WorldMatches.{match_map, IsMatch}
use Rattle.esto_chase_laws.specs.declared.entry.Claim.{Claim}
use Rattle.esto_chase_laws.specs.declared.entry.Claim.TheVariants.{Fact as Stated, Same}
use Rattle.esto_cert.specs.Lines.{with_item}
use Rattle.esto_cert.specs.Linking.{IsAmong}
use Rattle.esto_cert.specs.declared.line.Line.{Line}
use Rattle.esto_cert.specs.declared.line.Line.TheVariants.{Expanded, Step, Match}
use Rattle.esto_cert.specs.declared.linking.Equality.{Equality}

-- What a certificate is for: the expanded facts of a plan, a set of its atoms, the rules, the query, and the plan's head.
pub record Case : Type 0 where
  pub expanded : List ExpandedFact
  pub set : List Bool
  pub rules : List Rule
  pub query : ConjunctiveQuery
  pub targets : List Term

-- The item of a number, counted from 1.
abbrev pub numbered : {A : Type 0} → List A → ℕ → Option A
numbered items number = cond (number == 0) None (slice_get items (number - 1))

-- The fact that a claim states.
abbrev pub fact_of : Option Claim → Option (Fact Term)
fact_of None = None
fact_of (Some (Stated fact)) = Some fact
fact_of (Some (Same left right)) = None

-- The equality that a claim states.
abbrev pub equality_of : Option Claim → Option Equality
equality_of None = None
equality_of (Some (Stated fact)) = None
equality_of (Some (Same left right)) = Some (record { left = left; right = right })

-- The facts that the claims of these numbers state, where each states one.
abbrev pub facts_at : List Claim → List ℕ → Option (List (Fact Term))
facts_at claims [] = Some []
facts_at claims (number ∷ numbers) = with_item (fact_of (numbered claims number)) (facts_at claims numbers)

-- The equalities that the claims of these numbers state, where each states one.
abbrev pub equalities_at : List Claim → List ℕ → Option (List Equality)
equalities_at claims [] = Some []
equalities_at claims (number ∷ numbers) = with_item (equality_of (numbered claims number)) (equalities_at claims numbers)

-- The claims of the numbers `facts` state the chosen facts, and those of `links` the equalities; the facts match the body where terms that these equalities
-- link count as one.
pub record Matches (claims : List Claim) (body : List (Fact Term)) (facts links : List ℕ) (chosen : List (Fact Term))
    (equalities : List Equality) : Type 0 where
  pub stated : facts_at claims facts ≡ Some chosen
  pub named : equalities_at claims links ≡ Some equalities
  pub fits : IsMatch (IsAmong chosen equalities) body chosen

-- What the rule of that number makes at a place: a tuple rule the fact of the head's atom of that number, counted from 1, an equality rule, at 0, that its
-- sides are one, and a denial nothing.
abbrev pub made_at : ℕ → ℕ → Rule → (Term → Term) → Option Claim
made_at place number (tuple body head) m = option_map (λ atom. Stated (image (extended number body head m) atom)) (numbered head place)
made_at place number (equality body left right) m = cond (place == 0) (Some (Same (m left) (m right))) None
made_at place number (denial body) m = None

-- The fact is that of the atom at the place, both counted from 1, and the set has the atom.
abbrev pub IsNamed : List Bool → ℕ → ℕ → ExpandedFact → Type 0
IsNamed set atom place fact = (atom ≡ fact.atom + 1) × (place ≡ fact.place + 1) × Has set fact.atom

-- After lines with these claims, a line may make the claim: it is the expanded fact of an atom of the set at a place, both counted from 1; or what a rule
-- makes at a match among the named lines.
abbrev pub MayClaim : Case → List Claim → Line → Claim → Type 0
MayClaim case claims (Expanded atom place) claim =
    (fact : ExpandedFact) × Contains case.expanded fact × IsNamed case.set atom place fact × (claim ≡ Stated fact.fact)
MayClaim case claims (Step number place facts links) claim =
    (rule : Rule) × (numbered case.rules number ≡ Some rule)
    × ((chosen : List (Fact Term)) × (equalities : List Equality) × Matches claims (body_of rule) facts links chosen equalities
    × (made_at place (number - 1) rule (match_map (body_of rule) chosen) ≡ Some claim))
MayClaim case claims (Match facts links) claim = ⊥

-- After lines with these claims, a line may be the last: the named lines match the query's body, and make its head, place by place, one with the targets.
abbrev pub MayEnd : Case → List Claim → Line → Type 0
MayEnd case claims (Expanded atom place) = ⊥
MayEnd case claims (Step number place facts links) = ⊥
MayEnd case claims (Match facts links) =
    (chosen : List (Fact Term)) × (equalities : List Equality) × Matches claims case.query.body facts links chosen equalities
    × AllZip (Linked (IsAmong chosen equalities)) case.targets (map (match_map case.query.body chosen) case.query.head)
