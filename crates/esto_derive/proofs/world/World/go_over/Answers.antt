use Rattle.std.proofs.Common.{◌<◌, length, get_or, refl, arith}
use Rattle.std.proofs.lemmas.Option.{slice_get-get_or}
use Rattle.std.proofs.lemmas.Result.{on_ok_weaker}
use Rattle.esto_derive.proofs.ChainLemmas.{entry_within, grows_pushed, link_there, passed_nowhere, passed_pushed, passed_reached, place_nowhere, place_there}
use Rattle.esto_derive.proofs.world.World.go_over.Goals as goal

pub bounds-self-link : goal.bounds-self-link
bounds-self-link c = link_there c.args.self.now.entries.now c.args.self.now.set.now c.args.self.now.links.now c.requires.links c.args.link c.requires.link

pub offset_bounds-self-link : goal.offset_bounds-self-link
offset_bounds-self-link c =
    let within : c.args.link < length c.args.self.now.entries.now =
    link_there c.args.self.now.entries.now c.args.self.now.set.now c.args.self.now.links.now c.requires.links c.args.link c.requires.link in
    omega (arith, within)

pub returns-in_default-clause-passed : goal.returns-in_default-clause-passed
returns-in_default-clause-passed c =
    let it = c.args.self.now in
    let within : c.args.link < length it.entries.now =
    link_there it.entries.now it.set.now it.links.now c.requires.links c.args.link c.requires.link in
    passed_nowhere it.entries.now it.set.now c.args.reached.now c.item.result.now c.args.at c.args.link c.item.ensures
    (get_or it.entries.now c.args.link c.index-self-link.result) (slice_get-get_or it.entries.now c.args.link c.index-self-link.result within)
    c.in_default.ensures

pub returns-then-is_some-clause-passed : goal.returns-then-is_some-clause-passed
returns-then-is_some-clause-passed c =
    let it = c.args.self.now in
    let within : c.args.link < length it.entries.now =
    link_there it.entries.now it.set.now it.links.now c.requires.links c.args.link c.requires.link in
    passed_reached it.entries.now it.set.now c.args.reached.now c.item.result.now c.args.at c.args.link c.item.ensures
    (get_or it.entries.now c.args.link c.index-self-link.result) (slice_get-get_or it.entries.now c.args.link c.index-self-link.result within)
    c.in-Some.next.now c.in-Some.ensures
    (place_there c.args.reached.now c.items.result.now c.items.ensures c.in-Some.next.now c.place_of.result c.place_of.ensures c.is_some.result
    c.is_some.ensures c.if-is_some.true)

pub returns-clause-grows : goal.returns-clause-grows
returns-clause-grows c =
    let it = c.args.self.now in
    let within : c.args.link < length it.entries.now =
    link_there it.entries.now it.set.now it.links.now c.requires.links c.args.link c.requires.link in
    let at = slice_get-get_or it.entries.now c.args.link c.index-self-link.result within in
    on_ok_weaker c.push.result
    (λ pushed. grows_pushed it.entries.now it.set.now c.args.reached.now c.item.result.now c.args.at c.args.link c.item.ensures
    (get_or it.entries.now c.args.link c.index-self-link.result) at c.in-Some.next.now c.in-Some.ensures _ refl refl c.push.new.self pushed
    (entry_within it.entries.now it.set.now it.links.now c.requires.links c.args.link c.requires.link
    (get_or it.entries.now c.args.link c.index-self-link.result) at)
    (place_nowhere c.args.reached.now c.items.result.now c.items.ensures c.in-Some.next.now c.place_of.result c.place_of.ensures c.is_some.result
    c.is_some.ensures c.if-is_some.false))
    c.push.ensures.ok

pub returns-clause-passed : goal.returns-clause-passed
returns-clause-passed c =
    let it = c.args.self.now in
    let within : c.args.link < length it.entries.now =
    link_there it.entries.now it.set.now it.links.now c.requires.links c.args.link c.requires.link in
    on_ok_weaker c.push.result
    (λ pushed. passed_pushed it.entries.now it.set.now c.args.reached.now c.item.result.now c.args.at c.args.link c.item.ensures
    (get_or it.entries.now c.args.link c.index-self-link.result) (slice_get-get_or it.entries.now c.args.link c.index-self-link.result within)
    c.in-Some.next.now c.in-Some.ensures _ refl refl c.push.new.self pushed)
    c.push.ensures.ok
