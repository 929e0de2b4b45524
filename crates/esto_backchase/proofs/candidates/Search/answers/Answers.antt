use Rattle.std.proofs.Common.{sym, ◌∙◌}
use Rattle.std.proofs.lemmas.Bool.{false≢true}
use Rattle.std.proofs.lemmas.List.{length-map}
use Rattle.std.proofs.lemmas.Result.{IfOk-weaker}
use Rattle.esto_constraint.specs.Constraints.{rules_of}
use Rattle.esto_query.specs.Making.{query_of}
use Rattle.esto_semantics.specs.Listed.{HasCandidate}
use Rattle.esto_views.specs.Fragments.{views_of}
use Rattle.esto_views.specs.Plans.{fact_of, plan_query}
use Rattle.esto_views.proofs.FlatLemmas.{plan_atoms-flat}
use Rattle.esto_backchase.proofs.CandidateLemmas.{size-none, size-some}
use Rattle.esto_backchase.proofs.candidates.Search.answers.Goals as goal

pub returns-then-size-eq0 : goal.returns-then-size-eq0
returns-then-size-eq0 c = (
  λ holds. absurd (false≢true holds),
  λ answers. absurd (size-none c.args.set.now (sym c.size.ensures ∙ c.if-size-eq0.true) answers.has_candidate.some.0 answers.has_candidate.some.1),
)

pub returns : goal.returns
returns c =
    let it = c.args.self.now in
    let set = c.args.set.now in
    let sound = c.plans_are_sound.ensures it.plan.now in
    let has_candidate : HasCandidate (plan_query it.plan.now) set = record {
      over = c.requires.count ∙ sym (length-map it.plan.now.atoms fact_of);
      some = size-some set (λ none. c.if-size-eq0.false (c.size.ensures ∙ none));
    } in
    let safe = c.is_safe.ensures.0 c.if-not-is_safe.false in
    let equivalent = c.candidates_contain_the_query.ensures.equivalent (rules_of it.catalogue.now.rules) (views_of it.catalogue.now.fragments)
    (query_of it.query.now) (plan_query it.plan.now) set
    (record { same_length = c.requires.search.same_length; has_head = sound.has_head; flat_body = plan_atoms-flat it.plan.now sound })
    c.requires.search.universal has_candidate safe in
    IfOk-weaker c.is_contained.result _ _
    (λ _ contained. (
      λ holds. record { has_candidate = has_candidate; safe = safe; equivalent = equivalent.1 (contained.0 holds) },
      λ answers. contained.1 (equivalent.0 answers.equivalent),
    )) c.is_contained.ensures
