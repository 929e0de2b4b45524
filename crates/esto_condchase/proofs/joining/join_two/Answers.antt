use Rattle.std.proofs.Common.{◌++◌, inl, length, refl, ap, subst, arith, ◌∙◌}
use Rattle.std.proofs.lemmas.Bool.Decides.{nat_tests}
use Rattle.std.proofs.lemmas.Option.{slice_get_within}
use Rattle.std.proofs.lemmas.Result.{on_ok_weaker}
use Rattle.esto_term.specs.Sets.{Covers}
use Rattle.esto_condchase.proofs.AskLemmas.{AsksMore-none}
use Rattle.esto_known.proofs.CoverLemmas.{read_at}
use Rattle.esto_condchase.proofs.MeetLemmas.{on_ok_both}
use Rattle.esto_condchase.proofs.JoinLemmas.{union_count, union_asks, union_met}
use Rattle.esto_condchase.proofs.joining.join_two.Goals as goal

pub returns-then-second-since-clause-count : goal.returns-then-second-since-clause-count
returns-then-second-since-clause-count c = refl

pub returns-then-second-since-clause-tell : goal.returns-then-second-since-clause-tell
returns-then-second-since-clause-tell c = c.requires.tell

pub returns-then-second-since-clause-asks : goal.returns-then-second-since-clause-asks
returns-then-second-since-clause-asks c rules = AsksMore-none rules c.args.sets.now.count c.args.entries.now c.args.more.now

pub returns-then-second-since-clause-met : goal.returns-then-second-since-clause-met
returns-then-second-since-clause-met c one two at at_other = inl (c.if-first-since.true, c.if-second-since.true)

pub returns-in_default-clause-count : goal.returns-in_default-clause-count
returns-in_default-clause-count c = refl

pub returns-in_default-clause-tell : goal.returns-in_default-clause-tell
returns-in_default-clause-tell c = c.requires.tell

pub returns-in_default-clause-asks : goal.returns-in_default-clause-asks
returns-in_default-clause-asks c rules = AsksMore-none rules c.args.sets.now.count c.args.entries.now c.args.more.now

pub returns-in_default-clause-met : goal.returns-in_default-clause-met
returns-in_default-clause-met c one two at at_other = absurd
    (let below = slice_get_within c.args.entries.now c.args.first one at in let past = c.in_default.ensures.lookup in grind (arith, nat_tests, below, past))

pub returns-in_default-get-clause-count : goal.returns-in_default-get-clause-count
returns-in_default-get-clause-count c = refl

pub returns-in_default-get-clause-tell : goal.returns-in_default-get-clause-tell
returns-in_default-get-clause-tell c = c.requires.tell

pub returns-in_default-get-clause-asks : goal.returns-in_default-get-clause-asks
returns-in_default-get-clause-asks c rules = AsksMore-none rules c.args.sets.now.count c.args.entries.now c.args.more.now

pub returns-in_default-get-clause-met : goal.returns-in_default-get-clause-met
returns-in_default-get-clause-met c one two at at_other = absurd
    (let below = slice_get_within c.args.entries.now c.args.second two at_other in let past = c.in_default-get.ensures.lookup in
    grind (arith, nat_tests, below, past))

pub link-requires-clause-same_count : goal.link-requires-clause-same_count
link-requires-clause-same_count c =
    let at = read_at c.args.entries.now c.args.first c.in-Some.one.now c.in-Some.ensures.lookup.0 c.in-Some.ensures.lookup.1 in
    let at_other = read_at c.args.entries.now c.args.second c.in-Some-get.two.now c.in-Some-get.ensures.lookup.0
    c.in-Some-get.ensures.lookup.1 in
    ap length c.in_ok-product.ensures ∙ (union_count c.args.entries.now c.args.first c.args.second c.in-Some.one.now c.in-Some-get.two.now c.args.from.now
    c.args.to.now at at_other
    (c.requires.meet c.in-Some.one.now c.in-Some-get.two.now at at_other)
    c.args.sets.now.count c.requires.counts).1

pub returns-clause-asks : goal.returns-clause-asks
returns-clause-asks c =
    let at = read_at c.args.entries.now c.args.first c.in-Some.one.now c.in-Some.ensures.lookup.0 c.in-Some.ensures.lookup.1 in
    let at_other = read_at c.args.entries.now c.args.second c.in-Some-get.two.now c.in-Some-get.ensures.lookup.0
    c.in-Some-get.ensures.lookup.1 in
    on_ok_weaker c.link.result (λ asks rules. union_asks c.args.entries.now c.args.first c.args.second c.in-Some.one.now c.in-Some-get.two.now c.args.from.now
    c.args.to.now at at_other
    (c.requires.meet c.in-Some.one.now c.in-Some-get.two.now at at_other) rules c.args.sets.now.count c.requires.counts c.in_ok-product.product
    c.in_ok-product.ensures c.args.more.now c.link.new.more asks) c.link.ensures.asks

pub returns-clause-met : goal.returns-clause-met
returns-clause-met c =
    let at = read_at c.args.entries.now c.args.first c.in-Some.one.now c.in-Some.ensures.lookup.0 c.in-Some.ensures.lookup.1 in
    let at_other = read_at c.args.entries.now c.args.second c.in-Some-get.two.now c.in-Some-get.ensures.lookup.0
    c.in-Some-get.ensures.lookup.1 in
    on_ok_both c.link.result (λ tell covers. union_met c.args.entries.now c.args.first c.args.second c.in-Some.one.now c.in-Some-get.two.now c.args.from.now
    c.args.to.now at at_other
    (c.requires.meet c.in-Some.one.now c.in-Some-get.two.now at at_other)
    c.args.since (c.args.entries.now ++ c.link.new.more) c.link.new.sets.sets tell
    (subst (Covers c.link.new.sets.sets) c.in_ok-product.ensures covers)) c.link.ensures.tell c.link.ensures.covers
