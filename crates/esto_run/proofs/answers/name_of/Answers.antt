use Rattle.std.proofs.Common.{◌≤◌, ap, sym, ◌∙◌, length, subst}
use Rattle.std.proofs.lemmas.Option.{slice_get_past}
use Rattle.esto_term.specs.declared.term.Term.{out-Term}
use Rattle.esto_run.specs.Answers.{given_name, level_name}
use Rattle.esto_run.proofs.answers.name_of.Goals as goal

pub returns-then-place-len : goal.returns-then-place-len
unfolding out-Term denote.Hole.Carrier.out
returns-then-place-len c =
    let past : length c.args.names.now ≤ c.in-Plain.variable = subst (λ n. n ≤ c.in-Plain.variable) c.len.ensures c.if-place-len.true in
    c.new-then-place-len.ensures ∙ sym (ap given_name (slice_get_past c.args.names.now c.in-Plain.variable past))
    ∙ ap (λ it. level_name c.args.names.now (out-Term it)) (sym c.in-Plain.is)
