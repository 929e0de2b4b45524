use Rattle.std.proofs.Common.{◌<◌, get_or, length, arith}
use Rattle.std.proofs.lemmas.Option.{slice_get-get_or, slice_get_within}
use Rattle.std.proofs.lemmas.Result.{IfOk-weaker}
use Rattle.esto_term.proofs.ListLemmas.{Contains-at}
use Rattle.esto_coded.proofs.WholeLemmas.{takes_run, read_get, plain_results}
use Rattle.esto_coded.proofs.answers.results.Goals as goal

pub run_plan-requires : goal.run_plan-requires
run_plan-requires c = takes_run c.args.relations.now c.args.steps.now.gets c.requires

pub bounds-relations-number : goal.bounds-relations-number
bounds-relations-number c =
    let own = c.requires c.item.result.now (Contains-at c.args.steps.now.gets 0 c.item.result.now c.item.ensures) in
    slice_get_within c.args.relations.now c.item.result.now.fragment own.1.0 own.1.1

pub offset_bounds-relations-number : goal.offset_bounds-relations-number
offset_bounds-relations-number c =
    let own = c.requires c.item.result.now (Contains-at c.args.steps.now.gets 0 c.item.result.now c.item.ensures) in
    let below : c.item.result.now.fragment < length c.args.relations.now =
    slice_get_within c.args.relations.now c.item.result.now.fragment own.1.0 own.1.1 in
    omega (arith, below)

pub returns-clause-rows : goal.returns-clause-rows
returns-clause-rows c =
    let own = c.requires c.item.result.now (Contains-at c.args.steps.now.gets 0 c.item.result.now c.item.ensures) in
    let below : c.item.result.now.fragment < length c.args.relations.now =
    slice_get_within c.args.relations.now c.item.result.now.fragment own.1.0 own.1.1 in
    let plain = read_get c.args.steps.now.gets c.item.result.now (c.is_plain.ensures c.if-not-is_plain.false) c.item.ensures in
    let there = slice_get-get_or c.args.relations.now c.item.result.now.fragment c.index-relations-number.result below in
    let relation = get_or c.args.relations.now c.item.result.now.fragment c.index-relations-number.result in
    IfOk-weaker c.projected.result _ _
    (λ it told row.
    let both = plain_results c.args.relations.now c.args.steps.now c.item.result.now relation plain.0 own.0 plain.1 there row in (
      λ inside. both.0 ((told row).0 inside),
      λ result. (told row).1 (both.1 result),
    ))
    c.projected.ensures.rows
