use Rattle.std.proofs.Common.{List, Option, map, refl, sym, subst, ◌∙◌}
use Rattle.std.specs.Prelude.{Contains, MatchOption}
use Rattle.esto_chase_laws.specs.declared.clash.Clash.{Clash}
use Rattle.esto_course.specs.Course.{Stops}
use Rattle.esto_course.specs.Course.Stops.{is_free}
use Rattle.esto_course.proofs.Steps.{at_exit}
use Rattle.esto_status.specs.Answers.{IsCaused, IsWant}
use Rattle.esto_status.proofs.AskedSteps.{handed_asks}
use Rattle.esto_run.specs.Picks.{candidate_of}
use Rattle.esto_run.specs.declared.picks.Pick.{Pick}
use Rattle.esto_rewriting.specs.Members.{ClashAt, HavePlan, IsMemberOf}
use Rattle.esto_rewriting.specs.Picking.{ArePicksOf}
use Rattle.esto_rewriting.specs.Run.{chooses_each}
use Rattle.esto_rewriting.specs.declared.members.Member.{Member}
use Rattle.esto_rewriting.proofs.PickingLemmas.{are_chosen}
use Rattle.esto_rewriting.proofs.RunAskedLemmas.{choice_asks, clash_asks, clash_wants, end_wants, picks_ask}
use Rattle.esto_rewriting.proofs.RunLemmas.{choice_stops, clash_goes, of_member, picks_answer}
use Rattle.esto_rewriting.proofs.ZipLemmas.{zip_some}
use Rattle.esto_rewriting.proofs.run.run_members.Goals as goal

pub clash_of-requires : goal.clash_of-requires
clash_of-requires g c =
    zip_some (IsMemberOf c.args.catalogue.now c.args.queries.now) c.args.queries.now c.args.members.now c.requires.members c.requires.union.some

pub returns-in_err-clash-clause-asked : goal.returns-in_err-clash-clause-asked
returns-in_err-clash-clause-asked g c =
    handed_asks _ _ _ c.from_residual.ensures.1
    (end_wants (g.S.Shelf.files c.args.shelf.now) c.args.catalogue.now c.args.queries.now c.args.number c.args.members.now
    (g.S.Shelf.asked c.args.shelf.now))

pub returns-in_err-reply-clause-asked : goal.returns-in_err-reply-clause-asked
returns-in_err-reply-clause-asked g c =
    let at = subst (λ (it : Option Clash). MatchOption it (HavePlan c.args.members.now) (ClashAt c.args.members.now)) c.in-Some.is c.in_ok-clash.ensures in
    handed_asks _ _ _ c.from_residual-in_err-reply.ensures.1
    (clash_wants (g.S.Shelf.files c.args.shelf.now) c.args.catalogue.now c.args.queries.now c.args.number c.args.members.now
    (g.S.Shelf.asked c.args.shelf.now) c.in-Some.clash at)

pub returns-in-Some-clause-answer : goal.returns-in-Some-clause-answer
returns-in-Some-clause-answer g c =
    let at = subst (λ (it : Option Clash). MatchOption it (HavePlan c.args.members.now) (ClashAt c.args.members.now)) c.in-Some.is c.in_ok-clash.ensures in
    clash_goes (g.S.Shelf.files c.args.shelf.now) c.args.catalogue.now c.args.queries.now c.args.number c.args.members.now c.in-Some.clash at
    c.in_ok-reply.reply c.in_ok-reply.ensures

pub returns-in-Some-clause-asked : goal.returns-in-Some-clause-asked
returns-in-Some-clause-asked g c =
    let at = subst (λ (it : Option Clash). MatchOption it (HavePlan c.args.members.now) (ClashAt c.args.members.now)) c.in-Some.is c.in_ok-clash.ensures in
    clash_asks (g.S.Shelf.files c.args.shelf.now) c.args.catalogue.now c.args.queries.now c.args.number c.args.members.now
    (g.S.Shelf.asked c.args.shelf.now) c.in-Some.clash at c.in_ok-reply.reply c.in_ok-reply.ensures

pub returns-in_err-picks-clause-answer : goal.returns-in_err-picks-clause-answer
returns-in_err-picks-clause-answer g c =
    let some = subst (λ (it : Option Clash). MatchOption it (HavePlan c.args.members.now) (ClashAt c.args.members.now)) c.in_default.is c.in_ok-clash.ensures in
    at_exit _ _ c.from_residual-in_err-picks.result c.from_residual-in_err-picks.ensures.1
    (choice_stops (g.S.Shelf.files c.args.shelf.now) c.args.catalogue.now c.args.queries.now c.args.number c.args.members.now some
    (subst (λ (them : List Member). Stops IsWant (IsCaused ⊥) (chooses_each them c.args.number) c.in_err-picks.field-0.0) c.items.ensures
    c.in_err-picks.ensures.refusal))

pub returns-in_err-picks-clause-asked : goal.returns-in_err-picks-clause-asked
returns-in_err-picks-clause-asked g c =
    let some = subst (λ (it : Option Clash). MatchOption it (HavePlan c.args.members.now) (ClashAt c.args.members.now)) c.in_default.is c.in_ok-clash.ensures in
    handed_asks _ _ _ c.from_residual-in_err-picks.ensures.1
    (choice_asks (g.S.Shelf.files c.args.shelf.now) c.args.catalogue.now c.args.queries.now c.args.number c.args.members.now some
    (g.S.Shelf.asked c.args.shelf.now) _
    (subst (λ (them : List Member). Stops IsWant (IsCaused ⊥) (chooses_each them c.args.number) c.in_err-picks.field-0.0) c.items.ensures
    c.in_err-picks.ensures.refusal))

pub run_picks-requires-clause-runnable : goal.run_picks-requires-clause-runnable
run_picks-requires-clause-runnable g c = λ pick inside.
    let form = c.planned_plans_have_their_form.ensures.form in
    let over = c.planned_plans_have_their_form.ensures.over in
    let found = of_member form over c.args.catalogue.now c.args.queries.now c.args.members.now c.args.number c.in_ok-picks.picks c.requires.members
    (subst (λ (them : List Member). ArePicksOf c.args.number them c.in_ok-picks.picks) c.items.ensures c.in_ok-picks.ensures.picks) pick
    (subst (λ (them : List Pick). Contains them pick) c.items-2.ensures inside) in
    found.2

pub run_picks-requires-clause-same_length : goal.run_picks-requires-clause-same_length
run_picks-requires-clause-same_length g c = λ pick query inside in_union.
    let form = c.planned_plans_have_their_form.ensures.form in
    let over = c.planned_plans_have_their_form.ensures.over in
    let found = of_member form over c.args.catalogue.now c.args.queries.now c.args.members.now c.args.number c.in_ok-picks.picks c.requires.members
    (subst (λ (them : List Member). ArePicksOf c.args.number them c.in_ok-picks.picks) c.items.ensures c.in_ok-picks.ensures.picks) pick
    (subst (λ (them : List Pick). Contains them pick) c.items-2.ensures inside) in
    found.3 ∙ c.requires.union.lengths found.0 query found.1 in_union

pub returns-clause-answer : goal.returns-clause-answer
returns-clause-answer g c =
    let some = subst (λ (it : Option Clash). MatchOption it (HavePlan c.args.members.now) (ClashAt c.args.members.now)) c.in_default.is c.in_ok-clash.ensures in
    let picked = subst (λ (them : List Member). ArePicksOf c.args.number them c.items-2.result.now) c.items.ensures
    (subst (λ (them : List Pick). ArePicksOf c.args.number c.items.result.now them) (sym c.items-2.ensures) c.in_ok-picks.ensures.picks) in
    picks_answer (g.S.Shelf.files c.args.shelf.now) c.args.catalogue.now c.args.queries.now c.args.number c.args.members.now some
    (map candidate_of c.items-2.result.now) (are_chosen c.args.number c.args.members.now c.items-2.result.now picked) _ c.run_picks.result
    c.run_picks.ensures.answer

pub returns-clause-asked : goal.returns-clause-asked
returns-clause-asked g c =
    let some = subst (λ (it : Option Clash). MatchOption it (HavePlan c.args.members.now) (ClashAt c.args.members.now)) c.in_default.is c.in_ok-clash.ensures in
    let picked = subst (λ (them : List Member). ArePicksOf c.args.number them c.items-2.result.now) c.items.ensures
    (subst (λ (them : List Pick). ArePicksOf c.args.number c.items.result.now them) (sym c.items-2.ensures) c.in_ok-picks.ensures.picks) in
    picks_ask (g.S.Shelf.files c.args.shelf.now) c.args.catalogue.now c.args.queries.now c.args.number c.args.members.now some
    (map candidate_of c.items-2.result.now) (are_chosen c.args.number c.args.members.now c.items-2.result.now picked) _ c.run_picks.ensures.asked

pub returns-in_err-clash-clause-answer : goal.returns-in_err-clash-clause-answer
returns-in_err-clash-clause-answer g c = at_exit _ _ c.from_residual.result c.from_residual.ensures.1 (is_free refl)

pub returns-in_err-reply-clause-answer : goal.returns-in_err-reply-clause-answer
returns-in_err-reply-clause-answer g c = at_exit _ _ c.from_residual-in_err-reply.result c.from_residual-in_err-reply.ensures.1 (is_free refl)
