use Rattle.std.proofs.Common.{refl, ap, arith, ◌∙◌}
use Rattle.esto_fill.specs.Wanted.{is_wanted}
use Rattle.esto_fill.proofs.WantedLemmas.{kept_each}
use Rattle.esto_fill.proofs.wanted.kept_for.Goals as goal

pub returns : goal.returns
returns c =
    kept_each c.args.wanted.now c.args.base _ refl c.has.ensures c.in_ok-field.ensures c.has-2.ensures c.in_ok-value.ensures
    (c.has-3.ensures ∙ ap (is_wanted c.args.wanted.now) (omega (arith, c.in-Some.ensures)))
