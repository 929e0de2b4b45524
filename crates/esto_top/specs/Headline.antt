-- What `list` answers where nothing is wrong with the files.
use Rattle.std.specs.Prelude.{◌≡◌, ◌↔◌, ℕ, ◌≤◌, Bool, IsTrue, List, [], ◌∷◌, slice_index_or, codes}
use Rattle.esto_mapping.specs.declared.catalogue.Catalogue.{Catalogue}
use Rattle.esto_chase_laws.specs.declared.clash.Clash.{Clash}
use Rattle.esto_constraint.specs.Constraints.{rules_of}
use Rattle.esto_core.specs.Cored.{IsOnlyCore}
use Rattle.esto_list.specs.Items.{sets_of, totals_of}
use Rattle.esto_list.specs.Text.{IsListText}
use Rattle.esto_list.specs.declared.listing.Listed.{Listed}
use Rattle.esto_semantics.specs.Cores.{HasNoRetract}
use Rattle.esto_ports.specs.Files.{Files}
use Rattle.esto_query.specs.Making.{query_of}
use Rattle.esto_query.specs.declared.query.Query.{Query}
use Rattle.esto_semantics.specs.Containment.{IsSatisfiable}
use Rattle.esto_semantics.specs.Listed.{IsExecutableRewriting, IsPick, IsWeight}
use Rattle.esto_semantics.specs.Plans.{IsUniversalPlan}
use Rattle.esto_semantics.specs.Queries.{ConjunctiveQuery}
use Rattle.esto_semantics.specs.Rewritings.{MapsOnto}
use Rattle.esto_term.specs.Sets.{Covers}
use Rattle.esto_views.specs.Fragments.{views_of, patterns_of, weights_of}
use Rattle.esto_views.specs.Plans.{plan_query}
use Rattle.esto_views.specs.declared.plan.Plan.{Plan}
use Rattle.esto_status.specs.Line.{line_of}
use Rattle.esto_opening.specs.Opening.{FilesSayCatalogue, FilesSayQuery}
use Rattle.esto_top.specs.Call.{Call, HoldsOfPut, WhereTold}
use Rattle.esto_top.specs.Outcome.{Outcome}
use Rattle.esto_status.specs.declared.status.Status.{Status}
use Rattle.esto_status.specs.declared.status.Status.TheVariants as status
use Rattle.esto_rewriting.specs.Listing.{IsClash, IsListOf, IsPlanned}

-- ---- the files

-- The files say this catalogue, and this query over it.
pub record FilesSay (files : Files) (catalogue_name query_name : List ℕ) (catalogue : Catalogue) (query : Query) : Type 0 where
  pub says_catalogue : FilesSayCatalogue files catalogue_name catalogue
  pub says_query : FilesSayQuery files query_name catalogue query

-- ---- satisfiable queries

-- Some database that meets the catalogue's rules gives the query an answer.
abbrev pub HasAnswers : Catalogue → Query → Type 0
HasAnswers catalogue query = IsSatisfiable (rules_of catalogue.rules) (query_of query)

-- The query over fragments is an executable rewriting of the query under the catalogue's rules.
abbrev pub Rewrites : Catalogue → Query → ConjunctiveQuery → Type 0
Rewrites catalogue query other =
    IsExecutableRewriting (rules_of catalogue.rules) (views_of catalogue.fragments) (patterns_of catalogue.fragments) (query_of query) other

-- Every executable rewriting of the query, with whatever variables and of whatever size, maps onto a set of the plan's atoms that has a printed set within it.
abbrev pub CoversRewritings : Catalogue → Query → Plan → List Listed → Type 0
CoversRewritings catalogue query plan items =
    (other : ConjunctiveQuery) → Rewrites catalogue query other
    → (set : List Bool) × MapsOnto other (plan_query plan) set × Covers (sets_of items) set

-- No executable rewriting of the query, with whatever variables and of whatever size, weighs less than the pick.
abbrev pub PicksLightest : Catalogue → Query → List Listed → Type 0
PicksLightest catalogue query items =
    (pick : ℕ) → IsPick (totals_of items) pick → (other : ConjunctiveQuery) (weight : ℕ) → Rewrites catalogue query other
    → IsWeight (weights_of catalogue.fragments) other.body weight → slice_index_or (totals_of items) pick 0 ≤ weight

-- No set is printed exactly where the query has no executable rewriting.
abbrev pub IsEmptyWithoutRewriting : Catalogue → Query → List Listed → Type 0
IsEmptyWithoutRewriting catalogue query items = (items ≡ []) ↔ ((other : ConjunctiveQuery) → ¬ (Rewrites catalogue query other))

-- The text is that of the printed plan and of its list. The plan is universal, and where the catalogue asks for the core it retracts into no proper sublist of
-- itself and is the only core for the query; its listed sets cover the executable rewritings, of which none weighs less than the pick, and there are none where
-- no set is listed.
pub record PrintsExactly (catalogue : Catalogue) (query : Query) (text : List ℕ) : Type 0 where
  pub plan : Plan
  pub items : List Listed
  pub planned : IsPlanned catalogue query plan
  pub list : IsListOf catalogue query plan items
  pub printed : IsListText catalogue.fragments plan items text
  pub universal : IsUniversalPlan (rules_of catalogue.rules) (views_of catalogue.fragments) (query_of query) (plan_query plan)
  pub core : IsTrue catalogue.core → HasNoRetract (plan_query plan)
  pub only_core : IsTrue catalogue.core → IsOnlyCore (rules_of catalogue.rules) (views_of catalogue.fragments) (query_of query) (plan_query plan)
  pub complete : CoversRewritings catalogue query plan items
  pub lightest : PicksLightest catalogue query items
  pub empty : IsEmptyWithoutRewriting catalogue query items

-- The status is Done, and the text prints exactly the list of the query over the catalogue.
abbrev pub IsExactList : Catalogue → Query → Status → List ℕ → Type 0
IsExactList catalogue query said text = (said ≡ status.Done) × PrintsExactly catalogue query text

-- ---- queries that are not satisfiable

-- The status tells that the query is unsatisfiable, with the clash at which its run ends, and the text is its line.
abbrev pub IsExactRefusal : Catalogue → Query → Status → List ℕ → Type 0
IsExactRefusal catalogue query said text =
    (clash : Clash) × IsClash catalogue query clash × (said ≡ status.Unsatisfiable clash) × (text ≡ line_of (status.Unsatisfiable clash))

-- ---- outcomes

-- What is said of each outcome of `list C Q`, where the files say a catalogue and a query over it.
abbrev pub SaidOfLists : (Catalogue → Query → Status → List ℕ → Type 0) → Type 0
SaidOfLists Fact =
    (words : List (List ℕ)) (files : Files) (catalogue_name query_name : List ℕ) (catalogue : Catalogue) (query : Query) (said : Status) (text : List ℕ)
    → words ≡ codes "list" ∷ catalogue_name ∷ query_name ∷ [] → FilesSay files catalogue_name query_name catalogue query → Outcome words files said text
    → Fact catalogue query said text

-- Each outcome of `list C Q` is the list of the query over the catalogue, where the files say both and the query is satisfiable.
abbrev pub OutcomesAreLists : Type 0
OutcomesAreLists = SaidOfLists (λ catalogue query said text. HasAnswers catalogue query → IsExactList catalogue query said text)

-- Each outcome of `list C Q`, where the files say a catalogue and a query over it, is the refusal of the query exactly where the query is unsatisfiable.
abbrev pub OutcomesAreRefusals : Type 0
OutcomesAreRefusals = SaidOfLists (λ catalogue query said text. ¬ (HasAnswers catalogue query) ↔ IsExactRefusal catalogue query said text)

-- The fact holds of what `list C Q` puts, or memory was refused and nothing put, where the files are told and say a catalogue and a query over it, and neither
-- count rose.
abbrev pub HoldsOfLists : (Catalogue → Query → Status → List ℕ → Type 0) → Call → Type 0
HoldsOfLists Fact call = WhereTold call (λ files.
    (catalogue_name query_name : List ℕ) (catalogue : Catalogue) (query : Query)
    → call.words ≡ codes "list" ∷ catalogue_name ∷ query_name ∷ [] → FilesSay files catalogue_name query_name catalogue query
    → HoldsOfPut (Fact catalogue query) call)

-- The headline: so `list C Q` prints exactly the list of the query over the catalogue, where the query is satisfiable.
abbrev pub ListsWhereTold : Call → Type 0
ListsWhereTold = HoldsOfLists (λ catalogue query said text. HasAnswers catalogue query → IsExactList catalogue query said text)

-- And so `list C Q` refuses the query, with the clash of its run, exactly where the query is unsatisfiable.
abbrev pub RefusesWhereTold : Call → Type 0
RefusesWhereTold = HoldsOfLists (λ catalogue query said text. ¬ (HasAnswers catalogue query) ↔ IsExactRefusal catalogue query said text)
