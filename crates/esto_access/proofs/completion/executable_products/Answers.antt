use Rattle.std.proofs.Common.{◌≡◌, ◌↔◌, ◌∙◌, length, Contains, sym, subst}
use Rattle.std.proofs.lemmas.List.{length-map}
use Rattle.std.proofs.lemmas.Result.{IfOk-weaker}
use Rattle.esto_term.specs.Sets.{Covers, IsMinimal}
use Rattle.esto_views.specs.Fragments.{patterns_of}
use Rattle.esto_views.specs.Plans.{fact_of, plan_query}
use Rattle.esto_access.specs.Completion.{completions}
use Rattle.esto_access.proofs.CompletionLemmas.{executable_by_completion, products-over, products_are_own}
use Rattle.esto_access.proofs.completion.executable_products.Goals as goal

pub complete-requires-clause-supplies : goal.complete-requires-clause-supplies
complete-requires-clause-supplies c =
    let same : length (plan_query c.args.plan.now).body ≡ c.args.products.now.count = length-map c.args.plan.now.atoms fact_of ∙ sym c.requires in
    record {
      each = c.in_ok-supplies.ensures.count ∙ sym c.requires;
      counts = λ number products at. c.in_ok-supplies.ensures.counts number products at ∙ sym c.requires;
      over = products-over (patterns_of c.args.fragments.now) (plan_query c.args.plan.now).body c.in_ok-supplies.supplies c.in_ok-supplies.ensures.least
          c.args.products.now.count same;
    }

pub complete-requires-clause-own : goal.complete-requires-clause-own
complete-requires-clause-own c = products_are_own (patterns_of c.args.fragments.now) (plan_query c.args.plan.now).body c.in_ok-supplies.supplies
    c.in_ok-supplies.ensures.least

pub returns-clause-count : goal.returns-clause-count
returns-clause-count c = IfOk-weaker c.complete.result _ _ (λ _ count. count ∙ c.requires) c.complete.ensures.count

pub returns-clause-minimal : goal.returns-clause-minimal
returns-clause-minimal c = IfOk-weaker c.complete.result _ _
    (λ found minimal set.
    let body = (plan_query c.args.plan.now).body in
    let same : length body ≡ c.args.products.now.count = length-map c.args.plan.now.atoms fact_of ∙ sym c.requires in
    let law =
    executable_by_completion c.executable_sets_unite.ensures.part (patterns_of c.args.fragments.now) body (Covers c.args.products.now.sets)
    c.args.products.now.sets
    (λ it over. (λ covered. covered, λ covered. covered)) c.in_ok-supplies.supplies
    (record {
      each = c.in_ok-supplies.ensures.count
          ∙ sym (length-map c.args.plan.now.atoms fact_of);
      least = c.in_ok-supplies.ensures.least;
      tell = c.in_ok-supplies.ensures.tell;
    }) set in
    let here = subst (λ count. Contains found.sets set ↔ IsMinimal
    (Contains (completions count c.in_ok-supplies.supplies c.args.products.now.sets)) set) (sym same) (minimal set) in
    (λ inside. law.1 (here.0 inside), λ minimal. here.1 (law.0 minimal)))
    c.complete.ensures.minimal
