use Rattle.std.proofs.Common.{refl, sym, ap, ◌∙◌}
use Rattle.std.specs.Option.{option_copied}
use Rattle.esto_query.proofs.TrailLemmas.{Tries-pushed}
use Rattle.esto_query.proofs.trail.bind_term.Goals as goal

pub returns-in-Ok : goal.returns-in-Ok
returns-in-Ok c =
    let read = sym (rw c.deref.ensures.value at c.value.ensures) in
    let none = read ∙ ap option_copied c.in-None.is in
    Tries-pushed c.args.start.now c.args.trail.now.items _
    (record { variable = c.in-Plain.variable; term = c.args.target }) c.args.term.now c.args.target.now c.in-Plain.is refl none c.in-Ok.ensures.items
