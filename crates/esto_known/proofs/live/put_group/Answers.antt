use Rattle.std.proofs.Common.{ap, sym, ◌∙◌}
use Rattle.std.proofs.lemmas.Option.{same_Some}
use Rattle.std.proofs.lemmas.Result.{on_ok_weaker}
use Rattle.esto_known.specs.declared.group.Group.{Group}
use Rattle.esto_known.proofs.LiveLemmas.{has_all}
use Rattle.esto_known.proofs.live.put_group.Goals as goal

pub returns-in-Some-clause-there : goal.returns-in-Some-clause-there
returns-in-Some-clause-there c = on_ok_weaker c.put_all.result (λ put group at. has_all c.args.places.now c.items.result.now _ group.places put
    (c.items.ensures ∙ ap (λ (it : Group). it.places) (same_Some _ group (sym c.in-Some.ensures ∙ at)))) c.put_all.ensures
