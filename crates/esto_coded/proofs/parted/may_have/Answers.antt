use Rattle.std.proofs.Common.{sym, ◌∙◌}
use Rattle.esto_term.proofs.ListLemmas.{Contains-at}
use Rattle.esto_rows.proofs.WantedLemmas.{among_at}
use Rattle.esto_coded.proofs.parted.may_have.Goals as goal

pub returns-in-Some : goal.returns-in-Some
returns-in-Some c row there among =
    c.has.ensures
    ∙ among_at c.args.set.now row among c.in-Some.code (Contains-at row 0 c.in-Some.code (sym (c.code.ensures row there) ∙ c.in-Some.is))
