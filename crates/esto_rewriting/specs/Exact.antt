-- What `list` answers to a union.
use Rattle.std.specs.Prelude.{◌≡◌, ◌≢◌, ◌↔◌, ⊤, ℕ, IsTrue, List, slice_get, Some, Contains}
use Rattle.std.specs.List.{AllZip}
use Rattle.esto_mapping.specs.declared.catalogue.Catalogue.{Catalogue}
use Rattle.esto_chase_laws.specs.declared.clash.Clash.{Clash}
use Rattle.esto_constraint.specs.Constraints.{rules_of}
use Rattle.esto_core.specs.Cored.{IsOnlyCore}
use Rattle.esto_list.specs.Items.{sets_of}
use Rattle.esto_status.specs.Line.{line_of}
use Rattle.esto_status.specs.declared.status.Status.{Status}
use Rattle.esto_status.specs.declared.status.Status.TheVariants as status
use Rattle.esto_semantics.specs.Cores.{HasNoRetract}
use Rattle.esto_rewriting.specs.Listing.{IsClash}
use Rattle.esto_query.specs.Making.{query_of}
use Rattle.esto_query.specs.declared.query.Query.{Query}
use Rattle.esto_semantics.specs.Containment.{IsSatisfiable}
use Rattle.esto_semantics.specs.Plans.{IsUniversalPlan}
use Rattle.esto_semantics.specs.Queries.{ConjunctiveQuery}
use Rattle.esto_union.specs.Unions.{AreRewritingOf, OneMapsOntoOne}
use Rattle.esto_views.specs.Fragments.{views_of}
use Rattle.esto_views.specs.Plans.{plan_query}
use Rattle.esto_rewriting.specs.List.{IsUnionText}
use Rattle.esto_rewriting.specs.Members.{AreMembersOf, OneIsEmpty, has_plan}
use Rattle.esto_rewriting.specs.declared.members.Member.{Member}
use Rattle.esto_rewriting.specs.declared.members.Member.TheVariants.{Planned, Clashed}

-- Some database that meets the catalogue's rules gives one of the union's queries an answer.
abbrev pub HaveAnswers : Catalogue → List Query → Type 0
HaveAnswers catalogue queries = (query : Query) × Contains queries query × IsSatisfiable (rules_of catalogue.rules) (query_of query)

-- The union has no executable rewriting: no union of executable queries over fragments is equivalent to it.
abbrev pub HasNoRewriting : Catalogue → List Query → Type 0
HasNoRewriting catalogue queries = (others : List ConjunctiveQuery) → ¬ (AreRewritingOf catalogue queries others)

-- The member has a plan exactly where the query is satisfiable.
abbrev pub TellsSatisfiable : Catalogue → Query → Member → Type 0
TellsSatisfiable catalogue query member = IsTrue (has_plan member) ↔ IsSatisfiable (rules_of catalogue.rules) (query_of query)

-- The member's plan is universal for the query.
abbrev pub HasUniversalPlan : Catalogue → Query → Member → Type 0
HasUniversalPlan catalogue query (Planned plan items) =
    IsUniversalPlan (rules_of catalogue.rules) (views_of catalogue.fragments) (query_of query) (plan_query plan)
HasUniversalPlan catalogue query (Clashed clash) = ⊤

-- Where the catalogue asks for the core, the member's plan retracts into no proper sublist of itself, and is the only core for the query.
abbrev pub HasOnlyCore : Catalogue → Query → Member → Type 0
HasOnlyCore catalogue query (Planned plan items) =
    IsTrue catalogue.core
    → HasNoRetract (plan_query plan) × IsOnlyCore (rules_of catalogue.rules) (views_of catalogue.fragments) (query_of query) (plan_query plan)
HasOnlyCore catalogue query (Clashed clash) = ⊤

-- Every executable rewriting of the union, with whatever variables and of whatever size, has a query that maps, head to head, onto a set of the member's plan
-- that has a listed set within it.
abbrev pub CoversUnions : Catalogue → List Query → Member → Type 0
CoversUnions catalogue queries (Planned plan items) =
    (others : List ConjunctiveQuery) → AreRewritingOf catalogue queries others → OneMapsOntoOne others (plan_query plan) (sets_of items)
CoversUnions catalogue queries (Clashed clash) = ⊤

-- The text is that of the union's members. They have plans exactly for the satisfiable queries. The plans are universal, and where the catalogue asks for the
-- core each retracts into no proper sublist of itself and is the only core for its query. Their lists cover the union's executable rewritings, of which there
-- are none exactly where some list is empty.
pub record PrintsUnion (catalogue : Catalogue) (queries : List Query) (text : List ℕ) : Type 0 where
  pub members : List Member
  pub are : AreMembersOf catalogue queries members
  pub printed : IsUnionText catalogue members text
  pub satisfiable : AllZip (TellsSatisfiable catalogue) queries members
  pub universal : AllZip (HasUniversalPlan catalogue) queries members
  pub cored : AllZip (HasOnlyCore catalogue) queries members
  pub complete : (member : Member) → Contains members member → CoversUnions catalogue queries member
  pub empty : OneIsEmpty members ↔ HasNoRewriting catalogue queries

-- The status is Done exactly where some query of the union is satisfiable, and then the text prints the union. Else it is Unsatisfiable, with the clash of the
-- first query's run, and the text is its line.
pub record ListsUnionExactly (catalogue : Catalogue) (queries : List Query) (said : Status) (text : List ℕ) : Type 0 where
  pub done : (said ≡ status.Done) ↔ HaveAnswers catalogue queries
  pub prints : said ≡ status.Done → PrintsUnion catalogue queries text
  pub unsatisfiable : ((clash : Clash) × (said ≡ status.Unsatisfiable clash)) ↔ ¬ (HaveAnswers catalogue queries)
  pub clash : (clash : Clash) → said ≡ status.Unsatisfiable clash → (first : Query) × (slice_get queries 0 ≡ Some first) × IsClash catalogue first clash
  pub line : said ≢ status.Done → text ≡ line_of said
