-- Rules, and what it is for a database to meet them. Source: tuple-generating and equality-generating dependencies (Fagin, Kolaitis, Miller and Popa 2005).
use Rattle.std.specs.Prelude.{◌≡◌, ◌≢◌, ℕ, List, [], Contains}
use Rattle.esto_term.specs.declared.term.Term.{Term}
use Rattle.esto_semantics.specs.Facts.{Database}
use Rattle.esto_semantics.specs.Maps.{AreFlat, IsFixedBy, Keeps, SendsInto, AgreeOn}
use Rattle.esto_semantics.specs.declared.fact.Fact.{Fact}
use Rattle.esto_semantics.specs.declared.fact.Value.TheVariants.{Text}
use Rattle.esto_term.specs.declared.term.Term.TheVariants.{Const}

-- A tuple rule has a body and a head of atoms; an equality rule has a body and two sides; a denial has a body alone.
pub data Rule : Type 0 where
  tuple : (body head : List (Fact Term)) → Rule
  equality : (body : List (Fact Term)) → (left right : Term) → Rule
  denial : (body : List (Fact Term)) → Rule

-- A tuple rule has a body and a head, over constants and variables.
pub record IsTupleRule (body head : List (Fact Term)) : Type 0 where
  pub has_body : body ≢ []
  pub has_head : head ≢ []
  pub flat_body : AreFlat body
  pub flat_head : AreFlat head

-- An equality rule has a body, over constants and variables, and each of its sides is a constant or in the body.
pub record IsEqualityRule (body : List (Fact Term)) (left right : Term) : Type 0 where
  pub has_body : body ≢ []
  pub flat_body : AreFlat body
  pub left_fixed : IsFixedBy body left
  pub right_fixed : IsFixedBy body right

-- A denial has a body, over constants and variables.
pub record IsDenial (body : List (Fact Term)) : Type 0 where
  pub has_body : body ≢ []
  pub flat_body : AreFlat body

-- It is such a rule of its kind.
abbrev pub IsRule : Rule → Type 0
IsRule (tuple body head) = IsTupleRule body head
IsRule (equality body left right) = IsEqualityRule body left right
IsRule (denial body) = IsDenial body

-- Each of them is such a rule.
abbrev pub AreRules : List Rule → Type 0
AreRules rules = (rule : Rule) → Contains rules rule → IsRule rule

-- The rule's body.
abbrev pub body_of : Rule → List (Fact Term)
body_of (tuple body head) = body
body_of (equality body left right) = body
body_of (denial body) = body

-- What a rule concludes from a map that sends its body to facts that hold. A tuple rule concludes that some map which agrees with this one on the body sends
-- the head to facts that hold; an equality rule that its two sides are one thing; a denial concludes what never is.
abbrev pub Concludes : {V : Type 0} → (List ℕ → V) → (V → V → Type 0) → (Fact V → Type 0) → Rule → (Term → V) → Type 0
Concludes {V} constant One Holds (tuple body head) m =
    (more : Term → V) × Keeps constant more × AgreeOn One body m more × SendsInto more head Holds
Concludes {V} constant One Holds (equality body left right) m = One (m left) (m right)
Concludes {V} constant One Holds (denial body) m = ⊥

-- Facts that hold meet a rule when for every map that keeps constants and sends the body to facts that hold the rule's conclusion is so. So they meet a denial
-- when there is no such map.
abbrev pub MeetsInto : {V : Type 0} → (List ℕ → V) → (V → V → Type 0) → (Fact V → Type 0) → Rule → Type 0
MeetsInto {V} constant One Holds rule =
    (m : Term → V) → Keeps constant m → SendsInto m (body_of rule) Holds → Concludes constant One Holds rule m

-- The database meets the rule.
abbrev pub MeetsRule : Rule → Database → Type 0
MeetsRule rule database = MeetsInto Text ◌≡◌ (Contains database) rule

-- The database meets each of the rules.
abbrev pub Meets : List Rule → Database → Type 0
Meets rules database = (rule : Rule) → Contains rules rule → MeetsRule rule database

-- The facts, read over terms, meet the rule.
abbrev pub IsMet : List (Fact Term) → Rule → Type 0
IsMet facts rule = MeetsInto Const ◌≡◌ (Contains facts) rule

-- The facts, read over terms, meet each of the rules.
abbrev pub AreMet : List (Fact Term) → List Rule → Type 0
AreMet facts rules = (rule : Rule) → Contains rules rule → IsMet facts rule
