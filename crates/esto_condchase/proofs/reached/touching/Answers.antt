use Rattle.std.proofs.Common.{◌↔◌, ◌∙◌, length, ap, sym, subst}
use Rattle.std.proofs.lemmas.List.{length-map}
use Rattle.std.proofs.lemmas.Result.{IfOk-weaker}
use Rattle.std.specs.List.{AllZip}
use Rattle.esto_term.specs.Sets.{Covers}
use Rattle.esto_chase_laws.specs.WorldMatches.{taken}
use Rattle.esto_known.specs.Touching.{AreTouching}
use Rattle.esto_condchase.proofs.reached.touching.Goals as goal

pub touch_all-requires-clause-rows : goal.touch_all-requires-clause-rows
touch_all-requires-clause-rows c =
    c.requires.rows ∙ sym (ap length (c.items.ensures ∙ c.in_ok-goals.ensures) ∙ length-map c.args.terms.now (taken c.args.from.now c.args.to.now))

pub returns-clause-count : goal.returns-clause-count
returns-clause-count c = c.touch_all.ensures.count

pub returns-clause-covers : goal.returns-clause-covers
returns-clause-covers c = IfOk-weaker c.touch_all.result _ _
    (λ by touches set. subst (λ its. Covers by.sets set ↔ (Covers c.args.sets.now.sets set × AllZip (AreTouching c.args.groups.now set) c.args.others.now its))
    (c.items.ensures ∙ c.in_ok-goals.ensures) (touches set)) c.touch_all.ensures.covers
