-- The item of a list that is chosen.
use Rattle.std.specs.Prelude.{◌≡◌, ◌≢◌, ℕ, ◌-◌, ◌<◌, List, [], length, Option, Some, None}
use Rattle.esto_mapping.specs.declared.catalogue.Catalogue.{Catalogue}
use Rattle.esto_constraint.specs.Constraints.{rules_of}
use Rattle.esto_list.specs.Items.{totals_of}
use Rattle.esto_list.specs.declared.listing.Listed.{Listed}
use Rattle.esto_query.specs.Making.{query_of}
use Rattle.esto_query.specs.declared.query.Query.{Query}
use Rattle.esto_semantics.specs.Access.{IsStatedOrder}
use Rattle.esto_semantics.specs.Listed.{IsListed, IsPick}
use Rattle.esto_views.specs.Fragments.{views_of, patterns_of}
use Rattle.esto_views.specs.Plans.{plan_query}
use Rattle.esto_views.specs.declared.plan.Plan.{Plan}
use Rattle.esto_status.specs.declared.status.Status.{Status}
use Rattle.esto_status.specs.declared.status.Status.TheVariants.{NoRewriting, NoSuchNumber}

-- The place of the item that is chosen: the pick, or the place of the item of the number, counted from 1.
abbrev pub IsPlace : List Listed → Option ℕ → ℕ → Type 0
IsPlace items None place = IsPick (totals_of items) place
IsPlace items (Some number) place = (place ≡ number - 1) × (place < length items)

-- Why there is none: no set is listed, or the number is above the length of the list.
pub data HasNoPlace (items : List Listed) (number : Option ℕ) (refusal : Status) : Type 0 where
  is_empty : items ≡ [] → refusal ≡ NoRewriting → HasNoPlace items number refusal
  is_above : (asked : ℕ) → number ≡ Some asked → items ≢ [] → length items < asked → refusal ≡ NoSuchNumber asked (length items)
      → HasNoPlace items number refusal

-- The item has a listed set of the plan, and its stated order.
pub record IsItemOf (catalogue : Catalogue) (query : Query) (plan : Plan) (item : Listed) : Type 0 where
  pub set : IsListed (rules_of catalogue.rules) (views_of catalogue.fragments) (patterns_of catalogue.fragments) (query_of query) (plan_query plan) item.set
  pub order : IsStatedOrder (patterns_of catalogue.fragments) (plan_query plan).body item.set item.order
