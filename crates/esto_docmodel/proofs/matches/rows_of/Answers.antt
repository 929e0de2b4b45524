use Rattle.std.proofs.Common.{[], ◌∷◌, ap, ◌∙◌}
use Rattle.std.proofs.lemmas.Result.{IfOk-weaker}
use Rattle.esto_docmodel.specs.Asking.{all_but_below, asks_below}
use Rattle.esto_docmodel.specs.Encodings.{kept_of}
use Rattle.esto_docmodel.specs.Shapes.{documents, shape, entries_of}
use Rattle.esto_docmodel.proofs.AskingLemmas.{asked_rows}
use Rattle.esto_docmodel.proofs.matches.rows_of.Goals as goal

pub returns-clause-rows : goal.returns-clause-rows
returns-clause-rows c = IfOk-weaker c.answers.result _ _
    (asked_rows (entries_of c.args.pattern.now.entries) (shape c.args.tree.now) c.args.asked.now c.requires c.in_ok-facts.facts
    (c.in_ok-facts.ensures ∙ ap (λ body. kept_of (all_but_below (asks_below body)) 0 (documents (c.args.tree.now ∷ []))) c.items.ensures))
    c.answers.ensures.rows
