use Rattle.std.proofs.Common.{sym, ap, ◌∙◌, arith}
use Rattle.std.specs.Option.{unwrap_or}
use Rattle.std.proofs.lemmas.Option.{slice_get_past}
use Rattle.esto_term.specs.declared.term.Term.TheVariants.{outs-Plain}
use Rattle.esto_query.specs.declared.query.Name.TheVariants.{Hidden}
use Rattle.esto_views.specs.Renamings.{name_by_kind, name_of}
use Rattle.esto_views.proofs.renaming.name_of.Goals as goal

pub returns-then-number-len : goal.returns-then-number-len
returns-then-number-len c =
    sym (ap (name_of c.args.names.now) c.in-Plain.is ∙ ap (name_by_kind c.args.names.now) (outs-Plain c.in-Plain.variable)
    ∙ ap (λ it. unwrap_or it Hidden) (slice_get_past c.args.names.now c.in-Plain.variable (omega arith)))
