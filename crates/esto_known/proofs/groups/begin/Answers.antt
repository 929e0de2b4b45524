use Rattle.std.proofs.Common.{◌++◌, ◌∷◌, [], ap, sym, subst, ◌∙◌}
use Rattle.std.proofs.lemmas.List.{map-append}
use Rattle.std.proofs.lemmas.Result.{on_ok_weaker}
use Rattle.esto_known.specs.Indexes.{AreKeysOf}
use Rattle.esto_known.specs.Groups.{claims_of}
use Rattle.esto_known.specs.declared.group.Group.{Group}
use Rattle.esto_known.proofs.groups.begin.Goals as goal

pub returns-clause-groups : goal.returns-clause-groups
returns-clause-groups c = on_ok_weaker c.push.result (λ is. (c.in_ok-group.group, c.in_ok-group.ensures, is)) c.push.ensures

pub returns-clause-keys : goal.returns-clause-keys
returns-clause-keys c = on_ok_weaker c.push.result
    (λ is. subst (AreKeysOf c.add.new.self)
    (ap (λ it. claims_of c.args.groups.now.items ++ it ∷ []) (sym c.in_ok-group.ensures.claim)
    ∙ sym (ap claims_of is ∙ map-append (λ (it : Group). it.claim) c.args.groups.now.items (c.in_ok-group.group ∷ [])))
    (c.in_ok-add.ensures (claims_of c.args.groups.now.items)
    (subst (λ its. AreKeysOf c.widen.new.keys (claims_of its)) c.as_slice.ensures.value c.in_ok-widen.ensures)))
    c.push.ensures
