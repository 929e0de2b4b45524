use Rattle.std.proofs.Common.{sym, ◌∙◌}
use Rattle.esto_text.proofs.PathLemmas.{some_next, brackets_taken, first_brackets, first_stands, first_shorter, first_stops}
use Rattle.esto_text.specs.declared.token.TokenKind.TheVariants.{LeftBracket}
use Rattle.esto_text.proofs.paths.first_step.Goals as goal

pub returns-in_ok-rest-in-LeftBracket-clause-ok : goal.returns-in_ok-rest-in-LeftBracket-clause-ok
returns-in_ok-rest-in-LeftBracket-clause-ok c =
    first_brackets _ _ (brackets_taken c.args.tokens.now c.in_ok-rest-in-LeftBracket.rest.now _ (sym c.in-LeftBracket.ensures)
    (rw c.split_at.ensures.back at c.in_ok-rest-in-LeftBracket.ensures.ok))

pub split_at-requires : goal.split_at-requires
split_at-requires c = some_next c.args.tokens.now LeftBracket (sym c.in-LeftBracket.ensures) (λ z. cc)

pub returns-in_default-clause-ok : goal.returns-in_default-clause-ok
returns-in_default-clause-ok c = first_stands _ _ c.next_step.ensures.ok

pub returns-in_default-clause-shorter : goal.returns-in_default-clause-shorter
returns-in_default-clause-shorter c = first_shorter _ _ c.next_step.ensures.ok

pub returns-in_default-clause-err : goal.returns-in_default-clause-err
returns-in_default-clause-err c = first_stops _ _ (λ e. c.in_default.not-LeftBracket (c.class_at.ensures ∙ e)) c.next_step.ensures.err
