use Rattle.std.proofs.lemmas.Result.{on_ok_weaker}
use Rattle.std.proofs.Common.{refl}
use Rattle.esto_known.proofs.GroupLemmas.{added_group}
use Rattle.esto_known.proofs.group.add_entry.Goals as goal

pub returns : goal.returns
returns c = on_ok_weaker c.push.result
    (λ is. (
      refl,
      added_group c.args.entries.now c.args.entry.now c.args.group.now _ c.leave.new.places c.requires.group c.requires.same refl
          c.in_ok-leave.ensures is c.in_ok-add.ensures.count c.in_ok-add.ensures.covers,
    )) c.push.ensures.ok
