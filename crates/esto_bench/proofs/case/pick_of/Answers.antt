use Rattle.std.proofs.Common.{[]}
use Rattle.esto_semantics.specs.Rules.{AreRules}
use Rattle.esto_term.proofs.ListLemmas.{Contains-nil}
use Rattle.esto_bench.specs.Case.{made_names, made_query, made_views}
use Rattle.esto_bench.proofs.CaseLemmas.{chain_is}
use Rattle.esto_views.proofs.FormLemmas.{plan_form}
use Rattle.esto_bench.proofs.PlanLemmas.{some_listed}
use Rattle.esto_bench.proofs.ViewLemmas.{satisfied}
use Rattle.esto_bench.proofs.case.pick_of.Goals as goal

pub unreachable-requires : goal.unreachable-requires
unreachable-requires c =
    let size = c.args.size in
    let plan = c.args.plan.now in
    let query = chain_is (λ relation. relation) size c.requires.some in
    let no_rules : AreRules [] = λ rule inside. absurd (Contains-nil rule inside) in
    some_listed size plan c.args.listing.now c.requires.list c.requires.some c.rewritings_without_inputs.ensures.stated
    c.listed_sets_are_minimal.ensures.no_rewriting
    (plan_form (λ it. (c.queries_are_their_own_instances.ensures.universal it).maps) [] (made_views size) (made_query size) plan
    (c.plans_are_sound.ensures plan)
    (c.plans_of_runs_are_universal.ensures.unions [] (made_views size) (made_names size) (made_query size) plan no_rules query c.requires.planned)
    (satisfied (made_query size)))
    (c.plans_of_runs_are_universal.ensures.universal [] (made_views size) (made_names size) (made_query size) plan no_rules query c.requires.planned)
    c.in-None.ensures
