-- For private clauses: the parts of an audit.
use Rattle.std.specs.Prelude.{◌≡◌, ◌⊎◌, ℕ, List, map, take, slice_get, Contains, Option, Some, None}
use Rattle.esto_constraint.specs.Matches.{IsLeastActive}
use Rattle.esto_semantics.specs.Rules.{IsMet}
use Rattle.esto_steps.specs.Rows.{IsRowOf, held_by}
use Rattle.esto_semantics.specs.Valuations.{Assignment}
use Rattle.esto_query.specs.declared.query.Name.{Name}
use Rattle.esto_semantics.specs.Facts.{Database}
use Rattle.esto_semantics.specs.Queries.{ConjunctiveQuery}
use Rattle.esto_semantics.specs.Rules.{Rule, Meets}
use Rattle.esto_semantics.specs.declared.fact.Fact.{Fact}
use Rattle.esto_semantics.specs.declared.fact.Value.{Value}
use Rattle.esto_semantics.specs.declared.fact.Value.TheVariants.{Text}
use Rattle.esto_stores.specs.Rows.{Row}
use Rattle.esto_term.specs.declared.term.Term.{Term}
use Rattle.esto_fill.specs.Databases.{database_of}
use Rattle.esto_fill.specs.Differences.{IsFirstBroken, IsLeastApart, IsFirstApart, AreOne, HoldViewRows, IsOfView, at}
use Rattle.esto_ports.specs.declared.difference.Difference.{Difference}
use Rattle.esto_ports.specs.declared.difference.Difference.TheVariants.{Rule as Broken, Missing, Extra}

-- The rule is one of the laws, or it is none, and the facts meet it.
abbrev pub IsPassed : List Rule → List (Fact Term) → Rule → Type 0
IsPassed laws facts rule = Contains laws rule ⊎ (¬ (Contains laws rule) × IsMet facts rule)

-- So is each of the rules.
abbrev pub ArePassed : List Rule → List (Fact Term) → List Rule → Type 0
ArePassed laws facts rules = (rule : Rule) → Contains rules rule → IsPassed laws facts rule

-- The rule of this number is none of the laws and has that least active match, and each rule before it is passed.
pub record IsFirstTried (laws rules : List Rule) (facts : List (Fact Term)) (number : ℕ) (valuation : Assignment) (places : List ℕ) : Type 0 where
  pub rule : Rule
  pub there : slice_get rules number ≡ Some rule
  pub tried : ¬ (Contains laws rule)
  pub active : IsLeastActive rule facts valuation places
  pub before : ArePassed laws facts (take number rules)

-- The database meets each of the rules; or it is the first that is not met.
abbrev pub JudgesRules : List Rule → List (List Name) → List (Fact Term) → Option Difference → Type 0
JudgesRules rules names facts None = Meets rules (database_of facts)
JudgesRules rules names facts (Some (Broken number cells)) = IsFirstBroken rules names facts number cells
JudgesRules rules names facts (Some (Missing _ _)) = ⊥
JudgesRules rules names facts (Some (Extra _ _)) = ⊥

-- The row of texts is one of the rows of values.
abbrev pub IsText : (List Value → Type 0) → Row → Type 0
IsText Rows row = Rows (map Text row)

-- The fragment of that name has the rows of its view, or this is the least row that is in one of the two alone.
abbrev pub JudgesFragment : List ℕ → (List Value → Type 0) → List Row → Option Difference → Type 0
JudgesFragment own Rows rows None = AreOne (IsText Rows) (Contains rows)
JudgesFragment own Rows rows (Some (Missing name row)) = (name ≡ own) × IsLeastApart (IsText Rows) (Contains rows) row
JudgesFragment own Rows rows (Some (Extra name row)) = (name ≡ own) × IsLeastApart (Contains rows) (IsText Rows) row
JudgesFragment own Rows rows (Some (Broken _ _)) = ⊥

-- The two lists have the same rows; or this is the least row that is in one of them alone, with that name: it is missing where the first list has it.
abbrev pub TellsApart : List ℕ → List Row → List Row → Option Difference → Type 0
TellsApart own rows others None = AreOne (Contains rows) (Contains others)
TellsApart own rows others (Some (Missing name row)) = (name ≡ own) × IsLeastApart (Contains rows) (Contains others) row
TellsApart own rows others (Some (Extra name row)) = (name ≡ own) × IsLeastApart (Contains others) (Contains rows) row
TellsApart own rows others (Some (Broken number cells)) = ⊥

-- Each fragment has the rows of its view, or this is the first that has others, and the least row.
abbrev pub JudgesFragments : List (List ℕ) → List ConjunctiveQuery → Database → List (List Row) → Option Difference → Type 0
JudgesFragments fragments views database rows None = HoldViewRows views database (IsRowOf (held_by rows))
JudgesFragments fragments views database rows (Some (Missing name row)) =
    IsFirstApart fragments (IsOfView views database) (λ number own. IsRowOf (held_by rows) (at number own)) name row
JudgesFragments fragments views database rows (Some (Extra name row)) =
    IsFirstApart fragments (λ number own. IsRowOf (held_by rows) (at number own)) (IsOfView views database) name row
JudgesFragments fragments views database rows (Some (Broken _ _)) = ⊥
