use Rattle.std.proofs.Common.{length}
use Rattle.std.proofs.lemmas.Result.{IfOk-weaker}
use Rattle.esto_semantics.specs.Listed.{IsRewriting, AnswersQuery}
use Rattle.esto_semantics.specs.Rewritings.{IsPlanFor}
use Rattle.esto_term.specs.Sets.{TellHolds}
use Rattle.esto_term.proofs.CoverLemmas.{minimal-cover}
use Rattle.esto_constraint.specs.Constraints.{rules_of}
use Rattle.esto_query.specs.Making.{query_of}
use Rattle.esto_views.specs.Fragments.{views_of, patterns_of}
use Rattle.esto_views.specs.Plans.{plan_query}
use Rattle.esto_views.proofs.FlatLemmas.{plan_atoms-flat}
use Rattle.esto_backchase.proofs.listing.minimal_sets_plain.Goals as goal

pub returns-clause-listed : goal.returns-clause-listed
returns-clause-listed c = IfOk-weaker c.executable_products.result _ _ (λ it minimal set.
    let query = query_of c.args.query.now in
    let plan = plan_query c.args.plan.now in
    let rules = rules_of c.args.catalogue.now.rules in
    let views = views_of c.args.catalogue.now.fragments in
    let sound = c.plans_are_sound.ensures c.args.plan.now in
    let is_plan : IsPlanFor query plan = record
    { same_length = c.requires.same_length; has_head = sound.has_head; flat_body = plan_atoms-flat c.args.plan.now sound } in
    let told : TellHolds (length plan.body) (AnswersQuery rules views query plan) c.in_ok-answering.answering.sets =
    c.listed_sets_are_executable.ensures.told rules views query plan is_plan c.requires.universal c.in_ok-answering.answering.sets
    c.in_ok-answering.ensures.minimal in
    let listed = c.listed_sets_are_executable.ensures.executable rules views (patterns_of c.args.catalogue.now.fragments) query plan
    c.in_ok-answering.answering.sets told set in
    let found = minimal set in
    (λ inside. listed.1 (found.0 inside), λ is_listed. found.1 (listed.0 is_listed))) c.executable_products.ensures.minimal

pub returns-clause-complete : goal.returns-clause-complete
returns-clause-complete c = IfOk-weaker c.executable_products.result _ _ (λ it are_listed other rewriting.
    let query = query_of c.args.query.now in
    let plan = plan_query c.args.plan.now in
    let rules = rules_of c.args.catalogue.now.rules in
    let views = views_of c.args.catalogue.now.fragments in
    let patterns = patterns_of c.args.catalogue.now.fragments in
    let onto = c.rewritings_map_onto_sets.ensures rules views patterns query plan other
    (plan_atoms-flat c.args.plan.now (c.plans_are_sound.ensures c.args.plan.now)) c.requires.universal
    c.requires.satisfiable rewriting in (
      onto.0,
      onto.2,
      minimal-cover (IsRewriting rules views patterns query plan) (length plan.body) (λ set is. is.has_candidate.over) it.sets
          are_listed onto.0 onto.1,
    )) (returns-clause-listed c)
