-- What is summed up of a query over a catalogue and over a database.
use Rattle.std.specs.Prelude.{◌≡◌, ◌≢◌, ◌↔◌, ℕ, List, [], ◌++◌, All, AllPairs, Contains, length, slice_index_or, codes}
use Rattle.std.specs.Fmt.{decimal}
use Rattle.esto_list.specs.Items.{sets_of, totals_of}
use Rattle.esto_list.specs.declared.listing.Listed.{Listed}
use Rattle.esto_query.specs.declared.query.Name.{Name}
use Rattle.esto_semantics.specs.Access.{Patterns}
use Rattle.esto_semantics.specs.Facts.{Database}
use Rattle.esto_semantics.specs.Listed.{chosen, AreListed, IsPick, IsWeight}
use Rattle.esto_semantics.specs.Queries.{ConjunctiveQuery, IsAnswer}
use Rattle.esto_semantics.specs.Rules.{Rule, AreRules}
use Rattle.esto_semantics.specs.declared.fact.Value.{Value}
use Rattle.esto_universal.specs.Planned.{IsPlanOfRun}
use Rattle.esto_views.specs.Plans.{plan_query}
use Rattle.esto_views.specs.declared.plan.Plan.{Plan}
use Rattle.esto_bench.specs.Case.{made_views, made_patterns, made_weights, made_names, made_query, made_database}
use Rattle.esto_bench.specs.declared.summary.Summary.{Summary}

-- The summary tells how many atoms the query's stated plan has, how many listed sets, the weight of the pick among them, and how many distinct answers the
-- query has over the database.
pub record SumsUp (rules : List Rule) (views : List ConjunctiveQuery) (patterns : Patterns) (weights : List ℕ) (names : List Name) (query : ConjunctiveQuery)
    (database : Database) (summary : Summary) : Type 0 where
  pub plan : Plan
  pub planned : IsPlanOfRun rules views names query plan
  pub items : List Listed
  pub listed : AreListed rules views patterns query (plan_query plan) (sets_of items)
  pub weighed : All (λ item. IsWeight weights (chosen item.set (plan_query plan).body) item.weight) items
  pub pick : ℕ
  pub picked : IsPick (totals_of items) pick
  pub answers : List (List Value)
  pub exact : (row : List Value) → Contains answers row ↔ IsAnswer query database row
  pub once : AllPairs ◌≢◌ answers
  pub told : summary ≡ record {
    plan = length plan.atoms;
    rewritings = length items;
    weight = slice_index_or (totals_of items) pick 0;
    rows = length answers;
  }

-- It is the summary of the made case of the size, which has no rules.
abbrev pub IsSummaryOfCase : ℕ → Summary → Type 0
IsSummaryOfCase size summary =
    SumsUp [] (made_views size) (made_patterns size) (made_weights size) (made_names size) (made_query size) (made_database size) summary

-- A query over a catalogue and over a database has one summary.
abbrev pub SummariesAreOne : Type 0
SummariesAreOne =
    (rules : List Rule) (views : List ConjunctiveQuery) (patterns : Patterns) (weights : List ℕ) (names : List Name) (query : ConjunctiveQuery)
    (database : Database) (summary other : Summary) → AreRules rules → SumsUp rules views patterns weights names query database summary
    → SumsUp rules views patterns weights names query database other → summary ≡ other

-- The lines of a summary.
abbrev pub summary_text : Summary → List ℕ
summary_text summary =
    codes "plan " ++ (decimal summary.plan ++ (codes "\nrewritings " ++ (decimal summary.rewritings ++ (codes "\nweight " ++ (decimal summary.weight
    ++ (codes "\nrows " ++ (decimal summary.rows ++ codes "\n")))))))
