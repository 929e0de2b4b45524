use Rattle.std.proofs.Common.{sym, ap, ◌∙◌}
use Rattle.std.proofs.lemmas.Option.{same_Some}
use Rattle.esto_known.specs.declared.group.Group.{Group}
use Rattle.esto_known.proofs.CoverLemmas.{read_at}
use Rattle.esto_known.proofs.finding.states_at.Goals as goal

pub returns-in-Some : goal.returns-in-Some
returns-in-Some c =
    let there = read_at c.args.groups.now c.args.place c.in-Some.group.now c.in-Some.ensures.lookup.0 c.in-Some.ensures.lookup.1 in (
      λ e. (c.in-Some.group.now, there, c.states.ensures.0 e),
      λ (group, at, is). c.states.ensures.1 (ap (λ (it : Group). it.claim) (same_Some c.in-Some.group.now group (sym there ∙ at)) ∙ is),
    )
