use Rattle.std.proofs.Common.{◌<◌, ◌++◌, ◌∷◌, [], Contains, refl, sym, subst}
use Rattle.std.proofs.lemmas.Option.{slice_get_within}
use Rattle.esto_chase_laws.specs.Claims.{AreSameClaim}
use Rattle.std.proofs.lemmas.Result.{on_ok_weaker}
use Rattle.esto_known.specs.Indexes.{AreKeysOf}
use Rattle.esto_known.specs.Groups.{AreGroups}
use Rattle.esto_known.specs.declared.group.Group.{Group}
use Rattle.esto_known.proofs.GroupLemmas.{groups_and, first_group, claims_stay, groups_taken}
use Rattle.esto_known.proofs.IndexLemmas.{found_group}
use Rattle.esto_known.proofs.groups.take_entry.Goals as goal

pub index_mut-group-requires : goal.index_mut-group-requires
index_mut-group-requires c = subst (λ count. c.in-Some.place < count) c.as_slice.ensures.len
    (slice_get_within c.as_slice.result.now c.in-Some.place c.in-Some.ensures.0 c.in-Some.ensures.1)

pub add_entry-requires-clause-same : goal.add_entry-requires-clause-same
add_entry-requires-clause-same c = (found_group c.args.groups.now.items c.args.groups.now.items c.as_slice.result.now c.in-Some.place
    c.index_mut-group.result.now (λ it. AreSameClaim c.args.entry.now.claim it.claim) c.as_slice.ensures.value refl c.index_mut-group.ensures.value
    c.in-Some.ensures.0 c.in-Some.ensures.1 c.in-Some.ensures.2).1

pub add_entry-requires-clause-group : goal.add_entry-requires-clause-group
add_entry-requires-clause-group c = c.requires.groups.each c.index_mut-group.result.now
    (found_group c.args.groups.now.items c.args.groups.now.items c.as_slice.result.now c.in-Some.place
    c.index_mut-group.result.now (λ it. AreSameClaim c.args.entry.now.claim it.claim) c.as_slice.ensures.value refl c.index_mut-group.ensures.value
    c.in-Some.ensures.0 c.in-Some.ensures.1 c.in-Some.ensures.2).0

pub returns-in-None-clause-groups : goal.returns-in-None-clause-groups
returns-in-None-clause-groups c =
    let none = λ (group : Group) (inside : Contains c.args.groups.now.items group). c.in-None.ensures group
    (subst (λ its. Contains its group) (sym c.as_slice.ensures.value) inside) in
    on_ok_weaker c.begin.result
    (λ made. subst (AreGroups (c.args.entries.now ++ c.args.entry.now ∷ [])) (sym made.2)
    (groups_and c.args.entries.now c.args.entry.now c.args.groups.now.items c.requires.groups made.0 none made.1.claim
    (first_group c.args.entries.now c.args.entry.now c.args.groups.now.items made.0 c.requires.groups none made.1)))
    c.begin.ensures.groups

pub returns-in-Some-clause-keys : goal.returns-in-Some-clause-keys
returns-in-Some-clause-keys c = on_ok_weaker c.add_entry.result
    (λ its. subst (AreKeysOf c.args.keys.now) (sym (claims_stay c.args.groups.now.items c.as_slice.result.now c.in-Some.place
    c.index_mut-group.result.now c.add_entry.new.group c.as_slice.ensures.value c.index_mut-group.ensures.value c.in-Some.ensures.0 c.in-Some.ensures.1 its.0))
    c.requires.keys) c.add_entry.ensures

pub returns-in-Some-clause-groups : goal.returns-in-Some-clause-groups
returns-in-Some-clause-groups c = on_ok_weaker c.add_entry.result
    (groups_taken c.args.groups.now.items c.as_slice.result.now c.in-Some.place
    c.index_mut-group.result.now c.add_entry.new.group c.as_slice.ensures.value c.index_mut-group.ensures.value c.in-Some.ensures.0 c.in-Some.ensures.1
    c.args.entries.now c.args.entry.now c.requires.groups c.in-Some.ensures.2) c.add_entry.ensures
