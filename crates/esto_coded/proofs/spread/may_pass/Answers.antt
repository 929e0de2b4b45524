use Rattle.std.proofs.Common.{sym, ap, ◌∙◌}
use Rattle.std.specs.Option.{option_copied}
use Rattle.esto_term.proofs.ListLemmas.{Contains-at}
use Rattle.esto_coded.proofs.spread.may_pass.Goals as goal

pub returns-in-Some-code : goal.returns-in-Some-code
returns-in-Some-code c row there passes =
    c.has.ensures
    ∙ passes _ (Contains-at c.args.columns.now 0 _ (sym c.first.ensures.value ∙ ap option_copied c.in-Some.is)) c.in-Some-code.code
    (sym (c.code.ensures row there) ∙ c.in-Some-code.is)
