-- What a law on certificates says.
use Rattle.std.specs.Prelude.{◌≡◌, ℕ, Bool, List, slice_get, Some, None}
use Rattle.esto_constraint.specs.Constraints.{rules_of}
use Rattle.esto_list.specs.declared.listing.Listed.{Listed}
use Rattle.esto_query.specs.Making.{query_of}
use Rattle.esto_views.specs.Fragments.{views_of}
use Rattle.esto_views.specs.Plans.{plan_query}
use Rattle.esto_views.specs.Contained.{IsSafelyContained}
use Rattle.esto_rewriting.specs.PlannedLaws.{HoldsOfPlans}
use Rattle.esto_rewriting.specs.Listing.{IsListOf}
use Rattle.esto_rewriting.specs.Verify.{HasVerdict}

-- ---- certificates that are accepted

-- Over each printed plan of a query, a set of its atoms that is safe, and whose candidate is contained in the query, has a certificate that is accepted,
-- whether it is listed or not.
abbrev pub ContainedSetsHaveOne : Type 0
ContainedSetsHaveOne = HoldsOfPlans (λ catalogue query plan. (set : List Bool)
    → IsSafelyContained (rules_of catalogue.rules) (views_of catalogue.fragments) (query_of query) (plan_query plan) set
    → (bytes : List ℕ) × HasVerdict catalogue query plan set bytes None)

-- So has the set of each item of the query's list.
abbrev pub ListedSetsHaveOne : Type 0
ListedSetsHaveOne = HoldsOfPlans (λ catalogue query plan. (items : List Listed) (place : ℕ) (item : Listed) → IsListOf catalogue query plan items
    → slice_get items place ≡ Some item → (bytes : List ℕ) × HasVerdict catalogue query plan item.set bytes None)
