use Rattle.std.proofs.Common.{◌++◌, Contains, ap, sym, subst, ◌∙◌}
use Rattle.std.proofs.lemmas.Result.{IfOk-weaker}
use Rattle.std.proofs.lemmas.List.Elements.{Contains-append_right}
use Rattle.esto_condchase.specs.Ways.{AreFound}
use Rattle.esto_condchase.proofs.news.given_for.Goals as goal

pub matches_of-requires-clause-among : goal.matches_of-requires-clause-among
matches_of-requires-clause-among c term inside =
    subst (λ it. Contains it term) (sym (c.items-2.ensures ∙ c.in_ok-live.ensures ∙ ap (λ it. it ++ c.args.asked.now) c.items.ensures))
    (Contains-append_right c.args.last.now.terms c.args.asked.now term (c.requires.among term inside))

pub returns-clause-found : goal.returns-clause-found
returns-clause-found c = IfOk-weaker c.matches_of.result _ _
    (λ ways. subst (λ it. AreFound c.args.known.now c.args.body.now it c.args.sides.now ways)
    (c.items-2.ensures ∙ c.in_ok-live.ensures ∙ ap (λ it. it ++ c.args.asked.now) c.items.ensures)) c.matches_of.ensures.found
