use Rattle.std.proofs.Common.{List, map, ap, sym, subst, ◌∙◌}
use Rattle.esto_columns.specs.declared.stored.StoredRows.{StoredRows}
use Rattle.esto_steps.specs.Rows.{IsRowOf, held_by}
use Rattle.esto_run.specs.Coded.{AreCodesOfAll}
use Rattle.esto_run.specs.Laws.{IsAnswerOfOne}
use Rattle.esto_run.specs.Opened.{AreRowsFor, HaveTexts, Held, held_of, rows_held}
use Rattle.esto_run.specs.Picks.{candidate_of}
use Rattle.esto_run.proofs.unions.answers_of_opened.Goals as goal

pub answers_of_picks-requires-clause-texts : goal.answers_of_picks-requires-clause-texts
answers_of_picks-requires-clause-texts c =
    subst (λ (them : List StoredRows). HaveTexts c.into_parts-codes.result.0 them) (sym c.items.ensures) c.into_parts-codes.ensures.texts

pub answers_of_picks-requires-clause-opened : goal.answers_of_picks-requires-clause-opened
answers_of_picks-requires-clause-opened c =
    subst (λ (them : List Held). AreRowsFor c.args.fragments.now them)
    (sym (ap (map (held_of c.into_parts-codes.result.0)) c.items.ensures ∙ c.into_parts-codes.ensures.held)) c.requires.rows

pub returns : goal.returns
returns c =
    subst (λ (them : List Held). AreCodesOfAll c.answers_of_picks.new.codes c.in_ok-rows.rows.rows
    (IsAnswerOfOne (IsRowOf (held_by (rows_held them))) (map candidate_of c.args.picks.now)))
    (ap (map (held_of c.into_parts-codes.result.0)) c.items.ensures ∙ c.into_parts-codes.ensures.held) c.in_ok-rows.ensures
