use Rattle.std.proofs.Common.{length, subst, sym}
use Rattle.std.proofs.lemmas.List.{length-map}
use Rattle.std.proofs.lemmas.Result.{IfOk-weaker}
use Rattle.esto_semantics.specs.Listed.{AnswersQuery}
use Rattle.esto_term.specs.Sets.{TellHolds}
use Rattle.esto_constraint.specs.Constraints.{rules_of}
use Rattle.esto_query.specs.Making.{query_of}
use Rattle.esto_views.specs.Fragments.{views_of, patterns_of}
use Rattle.esto_views.specs.Plans.{fact_of, plan_query}
use Rattle.esto_backchase.proofs.products.listed_products.Goals as goal

pub returns-clause-listed : goal.returns-clause-listed
returns-clause-listed c = IfOk-weaker c.executable_products.result _ _ (λ it minimal set.
    let query = query_of c.args.query.now in
    let plan = plan_query c.args.plan.now in
    let rules = rules_of c.args.catalogue.now.rules in
    let views = views_of c.args.catalogue.now.fragments in
    let answering = c.in_ok-answering.answering.sets in
    let told : TellHolds (length plan.body) (AnswersQuery rules views query plan) answering =
    subst (λ count. TellHolds count (AnswersQuery rules views query plan) answering) (sym (length-map c.args.plan.now.atoms fact_of))
    c.in_ok-answering.ensures.tell in
    let listed = c.listed_sets_are_executable.ensures.executable rules views (patterns_of c.args.catalogue.now.fragments) query plan answering told set in
    let found = minimal set in
    (λ inside. listed.1 (found.0 inside), λ is_listed. found.1 (listed.0 is_listed))) c.executable_products.ensures.minimal
