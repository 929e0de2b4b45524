use Rattle.std.proofs.Common.{◌↔◌, List, Bool, subst}
use Rattle.std.proofs.lemmas.Result.{on_ok_weaker}
use Rattle.std.specs.List.{AllZip}
use Rattle.esto_term.specs.Sets.{Covers}
use Rattle.esto_bits.specs.Kept.{Kept}
use Rattle.esto_known.specs.Touching.{AreTouching}
use Rattle.esto_known.proofs.DoneLemmas.{handed_on}
use Rattle.esto_known.proofs.touching.touch_all.Goals as goal

pub returns-clause-covers : goal.returns-clause-covers
returns-clause-covers c = handed_on c.touch_each.result _ c.and.result c.and.ensures _
    (on_ok_weaker c.touch_each.result (subst (λ (it : Kept). (set : List Bool) → Covers c.touch_each.new.sets.sets set
    ↔ (Covers it.sets set × AllZip (AreTouching c.args.groups.now set) c.args.terms.now c.args.others.now)) c.in_ok-sets.ensures)
    c.touch_each.ensures.covers)
