-- What `contains` and `minimise` answer where nothing is wrong with the files.
use Rattle.std.specs.Prelude.{◌≡◌, ◌≢◌, ◌↔◌, ℕ, List, length, codes}
use Rattle.esto_mapping.specs.declared.catalogue.Catalogue.{Catalogue}
use Rattle.esto_chase.specs.Chased.{RunClashes}
use Rattle.esto_chase_laws.specs.Runs.{start_of}
use Rattle.esto_chase_laws.specs.declared.clash.Clash.{Clash}
use Rattle.esto_constraint.specs.Constraints.{rules_of}
use Rattle.esto_contain.specs.Contained.{IsCounterexample}
use Rattle.esto_contain.specs.Ends.{FinishesAt}
use Rattle.esto_contain.specs.Minimised.{IsMinimised}
use Rattle.esto_contain.specs.declared.minimising.Minimal.{Minimal}
use Rattle.esto_status.specs.Line.{line_of}
use Rattle.esto_status.specs.declared.status.Status.{Status}
use Rattle.esto_status.specs.declared.status.Status.TheVariants as status
use Rattle.esto_semantics.specs.Cores.{with_head}
use Rattle.esto_query.specs.Making.{query_of}
use Rattle.esto_query.specs.Schemas.{names_of}
use Rattle.esto_query.specs.declared.query.Name.{Name}
use Rattle.esto_query.specs.declared.query.Query.{Query}
use Rattle.esto_semantics.specs.Containment.{IsContained, IsSatisfiable}
use Rattle.esto_semantics.specs.Queries.{ConjunctiveQuery, IsAnswer}
use Rattle.esto_semantics.specs.Rules.{Rule}
use Rattle.esto_semantics.specs.declared.fact.Fact.{Fact}
use Rattle.esto_term.specs.declared.term.Term.{Term}
use Rattle.esto_reasoning.specs.Contains.{IsNoText}
use Rattle.esto_reasoning.specs.Minimise.{IsMinimalText}

-- ---- `contains`

-- Over every database that meets the rules, each answer of the left query is one of the right query.
abbrev pub IsWithin : List Rule → ConjunctiveQuery → ConjunctiveQuery → Type 0
IsWithin rules left right = IsContained rules (IsAnswer left) (IsAnswer right)

-- The text is that of the last facts of the left query's run and of the run's head, under new names, which show that the left query is not contained in the
-- right one.
abbrev pub ShowsNo : List Rule → List (List ℕ) → List Name → ConjunctiveQuery → ConjunctiveQuery → List ℕ → Type 0
ShowsNo rules relations names left right text =
    (facts : List (Fact Term)) × (row : List Term) × FinishesAt rules (start_of left) (with_head row facts)
    × IsCounterexample rules left right facts row × IsNoText relations names facts row text

-- The status is HeadLengths of the lengths of the two heads exactly where they differ, with its line; and else Done. Then the text is `yes` exactly where the
-- left query is contained in the right one, and else that of a counterexample.
pub record ContainsExactly (rules : List Rule) (relations : List (List ℕ)) (names : List Name) (left right : ConjunctiveQuery) (said : Status)
    (text : List ℕ) : Type 0 where
  pub lengths : (said ≡ status.HeadLengths (length left.head) (length right.head)) ↔ (length left.head ≢ length right.head)
  pub done : (said ≡ status.Done) ↔ (length left.head ≡ length right.head)
  pub yes : said ≡ status.Done → (text ≡ codes "yes\n") ↔ IsWithin rules left right
  pub no : said ≡ status.Done → ¬ (IsWithin rules left right) → ShowsNo rules relations names left right text
  pub line : said ≢ status.Done → text ≡ line_of said

-- So it is of two queries over a catalogue.
abbrev pub IsExactContains : Catalogue → Query → Query → Status → List ℕ → Type 0
IsExactContains catalogue left right =
    ContainsExactly (rules_of catalogue.rules) (names_of catalogue.schema) left.names (query_of left) (query_of right)

-- ---- `minimise`

-- The text is that of the last facts of the query's run, under new names, and of exactly their minimal sets that are equivalent to the query.
abbrev pub PrintsMinimal : List Rule → List (List ℕ) → List Name → ConjunctiveQuery → List ℕ → Type 0
PrintsMinimal rules relations names query text =
    (minimal : Minimal) × IsMinimised rules names query minimal × IsMinimalText rules relations query minimal text

-- The status is Done exactly where some database that meets the rules gives the query an answer, and then the text prints its minimal equivalent parts. Else
-- it is Unsatisfiable, with the clash of the query's run, and the text is its line.
pub record MinimisesExactly (rules : List Rule) (relations : List (List ℕ)) (names : List Name) (query : ConjunctiveQuery) (said : Status) (text : List ℕ)
    : Type 0 where
  pub done : (said ≡ status.Done) ↔ IsSatisfiable rules query
  pub prints : said ≡ status.Done → PrintsMinimal rules relations names query text
  pub unsatisfiable : ((clash : Clash) × (said ≡ status.Unsatisfiable clash)) ↔ ¬ (IsSatisfiable rules query)
  pub clash : (clash : Clash) → (said ≡ status.Unsatisfiable clash) ↔ RunClashes rules (start_of query) clash
  pub line : said ≢ status.Done → text ≡ line_of said

-- So it is of a query over a catalogue.
abbrev pub IsExactMinimise : Catalogue → Query → Status → List ℕ → Type 0
IsExactMinimise catalogue query = MinimisesExactly (rules_of catalogue.rules) (names_of catalogue.schema) query.names (query_of query)
