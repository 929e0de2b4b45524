use Rattle.std.proofs.Common.{◌++◌, ◌∷◌, [], Contains, length, ap, sym, subst, ◌∙◌}
use Rattle.std.proofs.lemmas.Result.{on_ok_weaker}
use Rattle.esto_chase_laws.specs.declared.entry.Entry.{Entry}
use Rattle.esto_known.specs.Groups.{AreGroups}
use Rattle.esto_known.proofs.GroupLemmas.{put_last}
use Rattle.esto_known.proofs.known.push.Goals as goal

pub take-requires-clause-counts : goal.take-requires-clause-counts
take-requires-clause-counts c entry inside =
    let (first, same) = put_last c.args.entries.now c.push.new.self c.items.result.now c.args.entry c.item.result.now c.len-place.result
    c.in_ok-push.ensures.ok c.items.ensures c.len-place.ensures c.item.ensures in
    c.requires.counts entry (subst (λ them. Contains them entry) first inside) ∙ ap (λ (it : Entry). length it.product) (sym same)

pub returns-clause-groups : goal.returns-clause-groups
returns-clause-groups c =
    let (first, same) = put_last c.args.entries.now c.push.new.self c.items.result.now c.args.entry c.item.result.now c.len-place.result
    c.in_ok-push.ensures.ok c.items.ensures c.len-place.ensures c.item.ensures in
    on_ok_weaker c.take.result (subst (λ them. AreGroups them c.take.new.self) ((λ i. first i ++ same i ∷ []) ∙ sym c.in_ok-push.ensures.ok))
    c.take.ensures.ok
