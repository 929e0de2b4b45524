-- What `explain` says of a query.
use Rattle.std.specs.Prelude.{◌≡◌, ℕ, List, Some, None, slice_get}
use Rattle.esto_mapping.specs.declared.catalogue.Catalogue.{Catalogue}
use Rattle.esto_course.specs.Course.{Course, judges, and_then}
use Rattle.esto_list.specs.declared.listing.Listed.{Listed}
use Rattle.esto_query.specs.declared.query.Query.{Query}
use Rattle.esto_views.specs.declared.plan.Plan.{Plan}
use Rattle.esto_status.specs.declared.status.Status.{Status}
use Rattle.esto_rewriting.specs.Planning.{plans_query, lists_plan, chooses}
use Rattle.esto_rewriting.specs.Verify.{HasVerdict}

-- The text is some certificate for the item's set that is accepted.
abbrev pub certifies_item : Catalogue → Query → Plan → Listed → Course Status (List ℕ)
certifies_item catalogue query plan item = judges (λ text. HasVerdict catalogue query plan item.set text None) (λ _. ⊥)

-- The list is made, the item of the number is chosen, and a certificate for its set is written.
abbrev pub explains_plan : Catalogue → Query → ℕ → Plan → Course Status (List ℕ)
explains_plan catalogue query number plan =
    and_then (lists_plan catalogue query plan) (λ items.
    and_then (chooses items (Some number)) (λ place.
    and_then (judges (λ item. slice_get items place ≡ Some item) (λ _. ⊥)) (λ item.
    certifies_item catalogue query plan item)))

-- The query has a plan, and a certificate for one of its listed sets is written.
abbrev pub explains_query : ℕ → Catalogue → Query → Course Status (List ℕ)
explains_query number catalogue query = and_then (plans_query catalogue query) (λ plan. explains_plan catalogue query number plan)
