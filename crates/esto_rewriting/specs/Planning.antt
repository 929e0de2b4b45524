-- The steps on a query's plan and list that commands share.
use Rattle.std.specs.Prelude.{◌≡◌, ℕ, List, Option}
use Rattle.either.specs.Either.{MatchEither}
use Rattle.either.specs.declared.Either.{Either}
use Rattle.esto_mapping.specs.declared.catalogue.Catalogue.{Catalogue}
use Rattle.esto_chase_laws.specs.declared.clash.Clash.{Clash}
use Rattle.esto_course.specs.Course.{Course, judges}
use Rattle.esto_list.specs.declared.listing.Listed.{Listed}
use Rattle.esto_query.specs.declared.query.Query.{Query}
use Rattle.esto_views.specs.declared.plan.Plan.{Plan}
use Rattle.esto_status.specs.declared.status.Status.{Status}
use Rattle.esto_status.specs.declared.status.Status.TheVariants.{Unsatisfiable}
use Rattle.esto_rewriting.specs.Choice.{HasNoPlace, IsPlace}
use Rattle.esto_rewriting.specs.Listing.{IsClash, IsListOf, IsPlanned}

-- The query has a printed plan, or its run ends with a clash, and the step goes on with either.
abbrev pub ends_query : Catalogue → Query → Course Status (Either Plan Clash)
ends_query catalogue query = judges (λ end. MatchEither end (IsPlanned catalogue query) (IsClash catalogue query)) (λ _. ⊥)

-- The query has a printed plan, or it is refused with the clash at which its run ends.
abbrev pub plans_query : Catalogue → Query → Course Status Plan
plans_query catalogue query =
    judges (IsPlanned catalogue query) (λ refusal. (clash : Clash) × IsClash catalogue query clash × (refusal ≡ Unsatisfiable clash))

-- The plan's list is made.
abbrev pub lists_plan : Catalogue → Query → Plan → Course Status (List Listed)
lists_plan catalogue query plan = judges (IsListOf catalogue query plan) (λ _. ⊥)

-- The place of the item that is chosen; or there is none.
abbrev pub chooses : List Listed → Option ℕ → Course Status ℕ
chooses items number = judges (IsPlace items number) (HasNoPlace items number)
