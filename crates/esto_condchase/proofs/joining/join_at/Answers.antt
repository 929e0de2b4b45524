use Rattle.std.proofs.Common.{◌≡◌, ◌++◌, [], Some, slice_get, length, inl, ap, sym, subst, arith, ◌∙◌}
use Rattle.std.proofs.lemmas.Bool.Decides.{nat_tests}
use Rattle.std.proofs.lemmas.Option.{slice_get_within, same_Some}
use Rattle.std.proofs.lemmas.Result.{on_ok_weaker}
use Rattle.esto_condchase.specs.Rounds.{IsSideMet}
use Rattle.esto_known.specs.Live.{AreOld}
use Rattle.esto_condchase.proofs.AskLemmas.{AsksMore-none, AsksMore-then}
use Rattle.esto_known.proofs.CoverLemmas.{read_at}
use Rattle.esto_condchase.proofs.MeetLemmas.{on_ok_both}
use Rattle.esto_condchase.proofs.JoinLemmas.{side_met, side_none}
use Rattle.esto_condchase.proofs.joining.join_at.Goals as goal

pub returns-in_default-clause-asks : goal.returns-in_default-clause-asks
returns-in_default-clause-asks c rules = AsksMore-none rules c.args.count c.args.entries.now c.args.more.now

pub returns-in_default-clause-met : goal.returns-in_default-clause-met
returns-in_default-clause-met c other at = absurd
    (let below = slice_get_within c.args.groups.now c.args.place other at in let past = c.in_default.ensures.lookup in let same = ap length c.items.ensures in
    grind (arith, nat_tests, below, past, same))

pub returns-then-has_later-clause-asks : goal.returns-then-has_later-clause-asks
returns-then-has_later-clause-asks c rules = AsksMore-none rules c.args.count c.args.entries.now c.args.more.now

pub returns-in_default-claim-clause-asks : goal.returns-in_default-claim-clause-asks
returns-in_default-claim-clause-asks c rules = AsksMore-none rules c.args.count c.args.entries.now c.args.more.now

pub returns-then-has_later-clause-met : goal.returns-then-has_later-clause-met
returns-then-has_later-clause-met c other at =
    let both : Some c.in-Some.second.now ≡ Some other = sym (subst (λ its. slice_get its c.args.place ≡ Some c.in-Some.second.now) c.items.ensures
    (read_at c.items.result.now c.args.place c.in-Some.second.now c.in-Some.ensures.lookup.0 c.in-Some.ensures.lookup.1)) ∙ at in
    let same = same_Some c.in-Some.second.now other both in
    subst (λ it. IsSideMet c.args.entries.now c.args.since (c.args.entries.now ++ c.args.more.now) c.args.number c.args.first.now.claim c.args.place it
    c.args.from.now c.args.via.now) same
    (inl (c.if-place-number.true, λ old. c.has_later.ensures.new c.if-has_later.true (subst (AreOld c.args.since) (sym c.items-then-place-number.ensures) old)))

pub returns-in_default-claim-clause-met : goal.returns-in_default-claim-clause-met
returns-in_default-claim-clause-met c other at =
    let both : Some c.in-Some.second.now ≡ Some other = sym (subst (λ its. slice_get its c.args.place ≡ Some c.in-Some.second.now) c.items.ensures
    (read_at c.items.result.now c.args.place c.in-Some.second.now c.in-Some.ensures.lookup.0 c.in-Some.ensures.lookup.1)) ∙ at in
    let same = same_Some c.in-Some.second.now other both in
    subst (λ it. IsSideMet c.args.entries.now c.args.since (c.args.entries.now ++ c.args.more.now) c.args.number c.args.first.now.claim c.args.place it
    c.args.from.now c.args.via.now) same
    (side_none c.args.entries.now c.args.since (c.args.entries.now ++ c.args.more.now) c.args.number c.args.first.now.claim c.args.place
    c.in-Some.second.now c.args.from.now c.args.via.now c.in_default-claim.not-Same)

pub returns-clause-asks : goal.returns-clause-asks
returns-clause-asks c = on_ok_weaker c.join_met-2.result (λ asks rules. AsksMore-then rules c.args.count c.args.entries.now c.args.more.now _ _
    (c.in_ok-join_met.ensures.asks rules) (asks rules)) c.join_met-2.ensures.asks

pub returns-clause-met : goal.returns-clause-met
returns-clause-met c = on_ok_both c.join_met-2.result (λ asks met other at.
    let both : Some c.in-Some.second.now ≡ Some other = sym (subst (λ its. slice_get its c.args.place ≡ Some c.in-Some.second.now) c.items.ensures
    (read_at c.items.result.now c.args.place c.in-Some.second.now c.in-Some.ensures.lookup.0 c.in-Some.ensures.lookup.1)) ∙ at in
    subst (λ it. IsSideMet c.args.entries.now c.args.since (c.args.entries.now ++ c.join_met-2.new.more) c.args.number c.args.first.now.claim c.args.place it
    c.args.from.now c.args.via.now) (same_Some c.in-Some.second.now other both)
    (side_met c.args.entries.now c.join_met.new.more c.join_met-2.new.more c.args.since c.args.number c.args.first.now.claim c.args.place
    c.in-Some.second.now c.args.from.now c.args.via.now c.in-Same.left c.in-Same.right c.in-Same.is (asks []).kept c.in_ok-join_met.ensures.met met))
    c.join_met-2.ensures.asks c.join_met-2.ensures.met
