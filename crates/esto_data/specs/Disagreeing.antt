-- For private clauses: where facts and the rows of fragments do not agree.
use Rattle.std.specs.Prelude.{◌≡◌, ◌<◌, ℕ, List, length, take, slice_get, Contains, Option, Some, None, IfSome}
use Rattle.esto_coded.specs.Verdict.{Tells, given_part}
use Rattle.esto_coded.specs.declared.verdict.Verdict.{Verdict}
use Rattle.esto_fill.specs.Databases.{database_of}
use Rattle.esto_fill.specs.Differences.{HoldViewRows}
use Rattle.esto_fill.specs.Judging.{ArePassed, IsPassed}
use Rattle.esto_fill.specs.Texts.{AreExactly}
use Rattle.esto_relmodel.specs.Parts.{IsPartFor}
use Rattle.esto_semantics.specs.Facts.{Database}
use Rattle.esto_semantics.specs.Queries.{ConjunctiveQuery, IsAnswer}
use Rattle.esto_semantics.specs.Rules.{Rule, IsMet}
use Rattle.esto_semantics.specs.declared.fact.Fact.{Fact}
use Rattle.esto_steps.specs.Rows.{IsRowOf, held_by}
use Rattle.esto_stores.specs.Rows.{Row}
use Rattle.esto_term.specs.declared.term.Term.{Term}
use Rattle.esto_data.specs.declared.coded_audit.Disagreement.{Disagreement}
use Rattle.esto_data.specs.declared.coded_audit.Disagreement.TheVariants as disagreement

-- The verdict tells whether the rule is one of the laws or met, and the part that comes with it, if one does, is a part
-- of the facts for it.
pub record JudgesTried (laws : List Rule) (facts : List (Fact Term)) (rule : Rule) (verdict : Verdict) : Type 0 where
  pub passed : Tells verdict (IsPassed laws facts rule)
  pub part : IfSome (given_part verdict) (IsPartFor rule facts)

-- The rule of the number is none of the laws and is not met, and each rule before it is passed; the part that comes, if
-- one does, is a part of the facts for the rule.
pub record IsFirstUnpassed (laws rules : List Rule) (facts : List (Fact Term)) (number : ℕ) (given : Option (List (Fact Term))) : Type 0 where
  pub rule : Rule
  pub there : slice_get rules number ≡ Some rule
  pub tried : ¬ (Contains laws rule)
  pub unmet : ¬ (IsMet facts rule)
  pub before : ArePassed laws facts (take number rules)
  pub part : IfSome given (IsPartFor rule facts)

-- The fragment of the number holds exactly the rows of its view.
abbrev pub HoldsItsView : List ConjunctiveQuery → Database → List (List Row) → ℕ → Type 0
HoldsItsView views database lists number =
    (view : ConjunctiveQuery) → slice_get views number ≡ Some view → AreExactly (IsAnswer view database) (held_by lists number)

-- The fragment of the number has other rows than its view, and each before it holds exactly those of its view.
pub record IsFirstUnlike (views : List ConjunctiveQuery) (facts : List (Fact Term)) (lists : List (List Row)) (number : ℕ) : Type 0 where
  pub within : number < length views
  pub unlike : ¬ (HoldsItsView views (database_of facts) lists number)
  pub before : (earlier : ℕ) → earlier < number → HoldsItsView views (database_of facts) lists earlier

-- Each rule is passed; or this is the first that is not.
abbrev pub FindsUnpassed : List Rule → List Rule → List (Fact Term) → Option Disagreement → Type 0
FindsUnpassed laws rules facts None = ArePassed laws facts rules
FindsUnpassed laws rules facts (Some (disagreement.Rule number given)) = IsFirstUnpassed laws rules facts number given
FindsUnpassed laws rules facts (Some (disagreement.Rows number)) = ⊥

-- The fragments hold the rows of their views; or this is the first that has other rows.
abbrev pub FindsUnlike : List ConjunctiveQuery → List (Fact Term) → List (List Row) → Option Disagreement → Type 0
FindsUnlike views facts lists None = HoldViewRows views (database_of facts) (IsRowOf (held_by lists))
FindsUnlike views facts lists (Some (disagreement.Rule number given)) = ⊥
FindsUnlike views facts lists (Some (disagreement.Rows number)) = IsFirstUnlike views facts lists number

-- Each rule is passed, and the fragments hold the rows of their views; or this is the first rule that is not passed; or
-- each is, and this is the first fragment that has other rows.
abbrev pub FindsDisagreement : List Rule → List Rule → List ConjunctiveQuery → List (Fact Term) → List (List Row) → Option Disagreement → Type 0
FindsDisagreement laws rules views facts lists None = ArePassed laws facts rules × HoldViewRows views (database_of facts) (IsRowOf (held_by lists))
FindsDisagreement laws rules views facts lists (Some (disagreement.Rule number given)) = IsFirstUnpassed laws rules facts number given
FindsDisagreement laws rules views facts lists (Some (disagreement.Rows number)) = ArePassed laws facts rules × IsFirstUnlike views facts lists number
