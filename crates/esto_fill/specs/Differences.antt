-- Where datasets' facts and fragments' rows agree, and the first difference where they don't.
use Rattle.std.specs.Prelude.{◌≡◌, ◌≢◌, ◌↔◌, ◌⊎◌, ℕ, suc, ◌<◌, List, take, map, slice_get, Option, Some, None}
use Rattle.std.specs.Cmp.Lexicographic.{slice_cmp}
use Rattle.std.specs.Ordering.{nat_cmp}
use Rattle.std.specs.declared.cmp.Ordering.TheVariants.{Greater}
use Rattle.esto_query.specs.declared.query.Name.{Name}
use Rattle.esto_semantics.specs.Facts.{Database}
use Rattle.esto_semantics.specs.Matches.{IsAtMost, IsActive}
use Rattle.esto_semantics.specs.Queries.{ConjunctiveQuery}
use Rattle.esto_semantics.specs.Rules.{Rule, body_of, Meets}
use Rattle.esto_semantics.specs.Views.{IsViewRow}
use Rattle.esto_semantics.specs.declared.fact.Fact.{Fact}
use Rattle.esto_semantics.specs.declared.fact.Value.{Value}
use Rattle.esto_semantics.specs.declared.fact.Value.TheVariants.{Text}
use Rattle.esto_stores.specs.Rows.{Row}
use Rattle.esto_term.specs.declared.term.Term.{Term}
use Rattle.esto_fill.specs.Databases.{database_of}
use Rattle.esto_fill.specs.Records.{IsRecordOf}
use Rattle.esto_ports.specs.declared.difference.Difference.{Difference}
use Rattle.esto_ports.specs.declared.difference.Difference.TheVariants.{Rule as Broken, Missing, Extra}

-- ---- where they agree

-- The row of texts as a fact of the fragment of the number.
abbrev pub at : ℕ → Row → Fact (List ℕ)
at number row = record { relation = number; terms = row }

-- Each fragment holds exactly the rows of its view over the database. A predicate tells which rows the fragments hold.
abbrev pub HoldViewRows : List ConjunctiveQuery → Database → (Fact (List ℕ) → Type 0) → Type 0
HoldViewRows views database Holds =
    (fact : Fact Value) → IsViewRow views database fact ↔ ((row : Row) × Holds (at fact.relation row) × (fact.terms ≡ map Text row))

-- The database meets the rules, and each fragment holds exactly the rows of its view.
pub record Agree (rules : List Rule) (views : List ConjunctiveQuery) (database : Database) (Holds : Fact (List ℕ) → Type 0) : Type 0 where
  pub meets : Meets rules database
  pub rows : HoldViewRows views database Holds

-- ---- a rule

-- The facts do not meet the rule of that number, which is counted from 1 over all rules, but each rule before it; and the record is that of its least active
-- match, by the places of the facts.
pub record IsFirstBroken (rules : List Rule) (names : List (List Name)) (facts : List (Fact Term)) (number : ℕ) (cells : Row) : Type 0 where
  pub place : ℕ
  pub counted : number ≡ suc place
  pub rule : Rule
  pub there : slice_get rules place ≡ Some rule
  pub own : List Name
  pub named : slice_get names place ≡ Some own
  pub m : Term → Term
  pub places : List ℕ
  pub active : IsActive rule facts m places
  pub least : (other : Term → Term) (others : List ℕ) → IsActive rule facts other others → IsAtMost places others
  pub before : Meets (take place rules) (database_of facts)
  pub shown : IsRecordOf own (body_of rule) m cells

-- ---- the rows of a fragment

-- The row of texts is one of the fragment's view.
abbrev pub IsOfView : List ConjunctiveQuery → Database → ℕ → Row → Type 0
IsOfView views database number row = IsViewRow views database (record { relation = number; terms = map Text row })

-- The thing is in one of the two sets and not in the other.
abbrev pub IsInOne : {A : Type 0} → (A → Type 0) → (A → Type 0) → A → Type 0
IsInOne One Other thing = (One thing × ¬ (Other thing)) ⊎ (Other thing × ¬ (One thing))

-- The row is in the first set and not in the second, and none that is in one alone comes before it, cell by cell by bytes.
pub record IsLeastApart (One Other : Row → Type 0) (row : Row) : Type 0 where
  pub inside : One row
  pub outside : ¬ (Other row)
  pub least : (other : Row) → IsInOne One Other other → slice_cmp (slice_cmp nat_cmp) row other ≢ Greater

-- The two sets have the same things.
abbrev pub AreOne : {A : Type 0} → (A → Type 0) → (A → Type 0) → Type 0
AreOne {A} One Other = (thing : A) → One thing ↔ Other thing

-- The fragment of that name has a row that its view lacks or the other way round, where `First` and `Second` tell which rows are in the one and in the other,
-- and the row is the least; each fragment before it has its view's rows.
pub record IsFirstApart (names : List (List ℕ)) (First Second : ℕ → Row → Type 0) (name : List ℕ) (row : Row) : Type 0 where
  pub number : ℕ
  pub named : slice_get names number ≡ Some name
  pub apart : IsLeastApart (First number) (Second number) row
  pub before : (earlier : ℕ) → earlier < number → AreOne (First earlier) (Second earlier)

-- ---- the first difference

-- It is the first difference: of the rules by number the first that the database doesn't meet, with its least active match; or where it meets each of them, of
-- the fragments in order the first whose rows are not its view's, with the least row that its view has and it lacks, or that it has and its view lacks.
abbrev pub IsFirstDifference : List Rule → List (List Name) → List (List ℕ) → List ConjunctiveQuery → List (Fact Term) → (Fact (List ℕ) → Type 0)
    → Difference → Type 0
IsFirstDifference rules names fragments views facts Holds (Broken number cells) = IsFirstBroken rules names facts number cells
IsFirstDifference rules names fragments views facts Holds (Missing name row) =
    Meets rules (database_of facts) × IsFirstApart fragments (IsOfView views (database_of facts)) (λ number own. Holds (at number own)) name row
IsFirstDifference rules names fragments views facts Holds (Extra name row) =
    Meets rules (database_of facts) × IsFirstApart fragments (λ number own. Holds (at number own)) (IsOfView views (database_of facts)) name row

-- There is no difference, and then the two agree; or there is one, and this is the first.
abbrev pub Audits : List Rule → List (List Name) → List (List ℕ) → List ConjunctiveQuery → List (Fact Term) → (Fact (List ℕ) → Type 0)
    → Option Difference → Type 0
Audits rules names fragments views facts Holds None = Agree rules views (database_of facts) Holds
Audits rules names fragments views facts Holds (Some difference) = IsFirstDifference rules names fragments views facts Holds difference
