-- The members of a union: its queries with their ends, which are their printed plans with their lists in the union, or clashes.
use Rattle.std.specs.Prelude.{◌≡◌, Bool, true, false, IsTrue, List, [], slice_get, Some, Contains}
use Rattle.std.specs.List.{AllZip, list_any}
use Rattle.esto_mapping.specs.declared.catalogue.Catalogue.{Catalogue}
use Rattle.esto_chase_laws.specs.declared.clash.Clash.{Clash}
use Rattle.esto_list.specs.Items.{HaveOrders, HaveWeights, sets_of}
use Rattle.esto_list.specs.declared.listing.Listed.{Listed}
use Rattle.esto_rewriting.specs.Listing.{IsClash, IsPlanned}
use Rattle.esto_query.specs.declared.query.Query.{Query}
use Rattle.esto_term.specs.Sets.{AreListedBy}
use Rattle.esto_union.specs.Unions.{IsRewritingIn}
use Rattle.esto_views.specs.declared.plan.Plan.{Plan}
use Rattle.esto_rewriting.specs.declared.members.Member.{Member}
use Rattle.esto_rewriting.specs.declared.members.Member.TheVariants.{Planned, Clashed}

-- The plan is the printed one of one of the queries.
abbrev pub IsPlannedForOne : Catalogue → List Query → Plan → Type 0
IsPlannedForOne catalogue queries plan = (query : Query) × Contains queries query × IsPlanned catalogue query plan

-- The items are the plan's list in the union: exactly its sets that are listed in the union, each once, in order, each with its stated order and its weight.
pub record IsListIn (catalogue : Catalogue) (queries : List Query) (plan : Plan) (items : List Listed) : Type 0 where
  pub sets : AreListedBy (IsRewritingIn catalogue queries plan) (sets_of items)
  pub orders : HaveOrders plan catalogue.fragments items
  pub weights : HaveWeights plan catalogue.fragments items

-- The member is the query with its end: its printed plan with that plan's list in the union, or the clash at which its run ends.
abbrev pub IsMemberOf : Catalogue → List Query → Query → Member → Type 0
IsMemberOf catalogue queries query (Planned plan items) = IsPlanned catalogue query plan × IsListIn catalogue queries plan items
IsMemberOf catalogue queries query (Clashed clash) = IsClash catalogue query clash

-- The members are those of the union's queries, one for each, in order.
abbrev pub AreMembersOf : Catalogue → List Query → List Member → Type 0
AreMembersOf catalogue queries members = AllZip (IsMemberOf catalogue queries) queries members

-- Whether the member has a plan.
abbrev pub has_plan : Member → Bool
has_plan (Planned plan items) = true
has_plan (Clashed clash) = false

-- Some member has a plan.
abbrev pub HavePlan : List Member → Type 0
HavePlan members = IsTrue (list_any has_plan members)

-- No member has a plan, and the first one has the clash.
abbrev pub ClashAt : List Member → Clash → Type 0
ClashAt members clash = ¬ (HavePlan members) × (slice_get members 0 ≡ Some (Clashed clash))

-- Some member has a plan of which no set is listed.
abbrev pub OneIsEmpty : List Member → Type 0
OneIsEmpty members = (plan : Plan) × Contains members (Planned plan [])
