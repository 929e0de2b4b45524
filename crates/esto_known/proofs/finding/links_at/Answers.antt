use Rattle.std.proofs.Common.{sym, subst, ◌∙◌}
use Rattle.std.proofs.lemmas.Option.{same_Some}
use Rattle.esto_chase_laws.specs.Worlds.{SaysOne}
use Rattle.esto_known.specs.declared.group.Group.{Group}
use Rattle.esto_known.proofs.CoverLemmas.{read_at}
use Rattle.esto_known.proofs.finding.links_at.Goals as goal

pub returns-in-Some : goal.returns-in-Some
returns-in-Some c =
    let there = read_at c.args.groups.now c.args.place c.in-Some.group.now c.in-Some.ensures.lookup.0 c.in-Some.ensures.lookup.1 in (
      λ e. (c.in-Some.group.now, there, c.says_one.ensures.0 e),
      λ (group, at, says). c.says_one.ensures.1 (subst (λ (it : Group). SaysOne it.claim c.args.term.now c.args.other.now)
          (sym (same_Some c.in-Some.group.now group (sym there ∙ at))) says),
    )
