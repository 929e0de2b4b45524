-- How the made case is built.
use Rattle.std.specs.Prelude.{◌≡◌, ◌≢◌, ◌↔◌, ℕ, ◌<◌, ◌/◌, List, [], ◌∷◌, ◌++◌, map, codes, length, All, AllPairs, Contains}
use Rattle.esto_mapping.specs.declared.catalogue.Catalogue.{Catalogue}
use Rattle.esto_query.specs.Making.{query_of}
use Rattle.esto_run.specs.Opened.{AreOpened, AreRowsFor, Held, rows_held}
use Rattle.esto_list.specs.Items.{sets_of}
use Rattle.esto_list.specs.declared.listing.Listed.{Listed}
use Rattle.esto_semantics.specs.Access.{IsStatedOrder}
use Rattle.esto_semantics.specs.Listed.{chosen, AreListed, IsListed, IsWeight}
use Rattle.esto_semantics.specs.Queries.{IsAnswer}
use Rattle.esto_semantics.specs.declared.fact.Value.{Value}
use Rattle.esto_universal.specs.Planned.{IsPlanOfRun}
use Rattle.esto_views.specs.Plans.{plan_query}
use Rattle.esto_views.specs.declared.plan.Plan.{Plan}
use Rattle.esto_stores.specs.Table.{table_rows}
use Rattle.esto_stores.specs.TableText.{table_text}
use Rattle.esto_views.specs.Fragments.{views_of, patterns_of, weights_of}
use Rattle.esto_views.specs.declared.fragments.FragmentDef.{FragmentDef}
use Rattle.esto_bench.specs.Case.{below, made_columns, made_database, made_fragment_names, made_names, made_patterns, made_query, made_rows, made_view}
use Rattle.esto_bench.specs.Case.{made_views, made_weights, numbered, without_inputs}

-- The fragment is that of the letter over the relation, with this weight.
pub record IsMadeFragment (letter : List ℕ) (relation weight : ℕ) (fragment : FragmentDef) : Type 0 where
  pub name : fragment.name ≡ numbered letter relation
  pub view : query_of fragment.view ≡ made_view relation
  pub access : fragment.access ≡ without_inputs relation
  pub weight_is : fragment.weight ≡ weight

-- The fragment of the letter over the relation, with this weight, has come at the end.
pub record AddsMade (letter : List ℕ) (relation weight : ℕ) (old new : List FragmentDef) : Type 0 where
  pub fragment : FragmentDef
  pub added : new ≡ old ++ fragment ∷ []
  pub made : IsMadeFragment letter relation weight fragment

-- Both fragments of the relation have come at the end.
abbrev pub AddsBoth : ℕ → List FragmentDef → List FragmentDef → Type 0
AddsBoth relation old new =
    (between : List FragmentDef) × AddsMade (codes "A") relation 1 old between × AddsMade (codes "B") relation 2 between new

-- The fragments are those over so many relations.
pub record AreMadeFragments (size : ℕ) (fragments : List FragmentDef) : Type 0 where
  pub names : map (λ fragment. fragment.name) fragments ≡ made_fragment_names size
  pub views : views_of fragments ≡ made_views size
  pub patterns : patterns_of fragments ≡ made_patterns size
  pub weights : weights_of fragments ≡ made_weights size

-- The content of the file of the fragment of the number: fragments 2i and 2i + 1 hold the rows of relation i.
abbrev pub made_content : ℕ → List ℕ
made_content fragment = table_text made_columns (made_rows (fragment / 2))

-- The rows are those of the contents of the first fragments, so many, which say the made rows.
pub record AreOpenedBelow (catalogue : Catalogue) (count : ℕ) (opened : List Held) : Type 0 where
  pub rows : AreRowsFor catalogue.fragments opened
  pub of_contents : AreOpened catalogue.stores made_content (below count) (rows_held opened)
  pub say : (fragment : ℕ) → fragment < count → table_rows made_columns (made_content fragment) ≡ made_rows (fragment / 2)

-- The number is that of the query's distinct answers over the made database.
abbrev pub CountsAnswers : ℕ → ℕ → Type 0
CountsAnswers size count =
    (answers : List (List Value)) × AllPairs ◌≢◌ answers
    × ((row : List Value) → Contains answers row ↔ IsAnswer (made_query size) (made_database size) row) × (count ≡ length answers)

-- The plan is that of the made query.
abbrev pub IsPlanOfCase : ℕ → Plan → Type 0
IsPlanOfCase size plan = IsPlanOfRun [] (made_views size) (made_names size) (made_query size) plan

-- The items are the list of the plan of the made query: its listed sets, each with its stated order and its weight.
pub record IsListOfCase (size : ℕ) (plan : Plan) (items : List Listed) : Type 0 where
  pub listed : AreListed [] (made_views size) (made_patterns size) (made_query size) (plan_query plan) (sets_of items)
  pub orders : All (λ item. IsStatedOrder (made_patterns size) (plan_query plan).body item.set item.order) items
  pub weighed : All (λ item. IsWeight (made_weights size) (chosen item.set (plan_query plan).body) item.weight) items

-- The item has a listed set of the plan of the made query, and its stated order.
pub record IsItemOfCase (size : ℕ) (plan : Plan) (item : Listed) : Type 0 where
  pub set : IsListed [] (made_views size) (made_patterns size) (made_query size) (plan_query plan) item.set
  pub order : IsStatedOrder (made_patterns size) (plan_query plan).body item.set item.order
