use Rattle.std.proofs.Common.{◌≡◌, ◌↔◌, ◌∙◌, Bool, List, length}
use Rattle.std.proofs.lemmas.List.{length-map}
use Rattle.std.proofs.lemmas.Result.{IfOk-from_err}
use Rattle.esto_semantics.specs.Listed.{IsRewriting}
use Rattle.esto_term.proofs.CoverLemmas.{minimal-cover}
use Rattle.esto_constraint.specs.Constraints.{rules_of}
use Rattle.esto_query.specs.Making.{query_of}
use Rattle.esto_views.specs.Fragments.{views_of, patterns_of}
use Rattle.esto_views.specs.Plans.{fact_of, plan_query}
use Rattle.esto_views.proofs.FlatLemmas.{plan_atoms-flat}
use Rattle.esto_backchase.proofs.PartLemmas.{of_parts_as}
use Rattle.esto_backchase.specs.Candidates.{Answers}
use Rattle.esto_condchase.specs.Evidence.{MatchesIn}
use Rattle.esto_backchase.proofs.products.minimal_sets.Goals as goal

pub entries_of-requires-clause-within : goal.entries_of-requires-clause-within
entries_of-requires-clause-within c = c.catalogues_rank_their_rules.ensures.within c.args.catalogue.now

pub entries_of-requires-clause-ranks : goal.entries_of-requires-clause-ranks
entries_of-requires-clause-ranks c = c.catalogues_rank_their_rules.ensures.ranks c.args.catalogue.now

pub returns-clause-listed : goal.returns-clause-listed
returns-clause-listed c = c.in_ok-sets.ensures.listed

pub returns-clause-complete : goal.returns-clause-complete
returns-clause-complete c other rewriting =
    let query = query_of c.args.query.now in
    let plan = plan_query c.args.plan.now in
    let rules = rules_of c.args.catalogue.now.rules in
    let views = views_of c.args.catalogue.now.fragments in
    let patterns = patterns_of c.args.catalogue.now.fragments in
    let onto = c.rewritings_map_onto_sets.ensures rules views patterns query plan other
    (plan_atoms-flat c.args.plan.now (c.plans_are_sound.ensures c.args.plan.now)) c.requires.universal c.requires.satisfiable rewriting in (
      onto.0,
      onto.2,
      minimal-cover (IsRewriting rules views patterns query plan) (length plan.body) (λ set is. is.has_candidate.over) c.in_ok-sets.sets.sets
          c.in_ok-sets.ensures.listed onto.0 onto.1,
    )

pub returns-clause-decided : goal.returns-clause-decided
returns-clause-decided c =
    let catalogue = c.args.catalogue.now in
    c.entries_decide_answers.ensures.decide catalogue.fragments catalogue.rules catalogue.ranks c.args.query.now c.args.plan.now c.in_ok-entries.entries
    c.requires.same_length c.requires.universal c.requires.satisfiable c.in_ok-entries.ensures.entries

pub returns-clause-of_parts : goal.returns-clause-of_parts
returns-clause-of_parts c set =
    let query = query_of c.args.query.now in
    let plan = plan_query c.args.plan.now in
    let rules = rules_of c.args.catalogue.now.rules in
    let views = views_of c.args.catalogue.now.fragments in
    let patterns = patterns_of c.args.catalogue.now.fragments in
    let Answering = Answers c.args.catalogue.now c.args.query.now c.args.plan.now in
    let Matching = MatchesIn c.args.query.now c.args.plan.now c.in_ok-entries.entries in
    let same : (it : List Bool) → length it ≡ length plan.body → Answering it ↔ Matching it =
    λ it over. returns-clause-decided c it (over ∙ length-map c.args.plan.now.atoms fact_of) in
    let listed = c.in_ok-sets.ensures.listed set in
    let parts = c.listed_sets_are_executable.ensures.parts rules views patterns query plan set in (
      λ inside. of_parts_as patterns plan.body Answering Matching same set (parts.0 (listed.0 inside)),
      λ least. listed.1 (parts.1 (of_parts_as patterns plan.body Matching Answering (λ it over. ((same it over).1, (same it over).0)) set least)),
    )

pub returns-clause-consistent : goal.returns-clause-consistent
returns-clause-consistent c =
    let catalogue = c.args.catalogue.now in
    c.entries_decide_answers.ensures.consistent catalogue.fragments catalogue.rules catalogue.ranks c.args.query.now c.args.plan.now c.in_ok-entries.entries
    c.requires.satisfiable c.in_ok-entries.ensures.entries

pub returns-in_err-entries : goal.returns-in_err-entries
returns-in_err-entries c = record {
  entries = IfOk-from_err _ _ c.from_residual.ensures.0;
  new = IfOk-from_err _ _ c.from_residual.ensures.0;
  joined = IfOk-from_err _ _ c.from_residual.ensures.0;
  count = IfOk-from_err _ _ c.from_residual.ensures.0;
  listed = IfOk-from_err _ _ c.from_residual.ensures.0;
  complete = IfOk-from_err _ _ c.from_residual.ensures.0;
  decided = IfOk-from_err _ _ c.from_residual.ensures.0;
  of_parts = IfOk-from_err _ _ c.from_residual.ensures.0;
  consistent = IfOk-from_err _ _ c.from_residual.ensures.0;
}

pub returns-in_err-sets : goal.returns-in_err-sets
returns-in_err-sets c = record {
  entries = IfOk-from_err _ _ c.from_residual-in_err-sets.ensures.0;
  new = IfOk-from_err _ _ c.from_residual-in_err-sets.ensures.0;
  joined = IfOk-from_err _ _ c.from_residual-in_err-sets.ensures.0;
  count = IfOk-from_err _ _ c.from_residual-in_err-sets.ensures.0;
  listed = IfOk-from_err _ _ c.from_residual-in_err-sets.ensures.0;
  complete = IfOk-from_err _ _ c.from_residual-in_err-sets.ensures.0;
  decided = IfOk-from_err _ _ c.from_residual-in_err-sets.ensures.0;
  of_parts = IfOk-from_err _ _ c.from_residual-in_err-sets.ensures.0;
  consistent = IfOk-from_err _ _ c.from_residual-in_err-sets.ensures.0;
}
