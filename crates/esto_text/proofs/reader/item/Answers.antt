use Rattle.std.proofs.Common.{sym, ◌∙◌}
use Rattle.std.proofs.lemmas.Result.{err_from_is_err_and}
use Rattle.esto_text.proofs.ItemLemmas.{item_name_fails, item_rest_stops, item_shorter, item_terms, item_terms_fails, item_group, item_group_fails}
use Rattle.esto_text.specs.declared.token.TokenKind.TheVariants.{LeftParen, LeftBrace}
use Rattle.esto_text.proofs.PathLemmas.{some_next}
use Rattle.esto_text.proofs.reader.item.Goals as goal

pub returns-in_err-terms-in-LeftParen-clause-err : goal.returns-in_err-terms-in-LeftParen-clause-err
returns-in_err-terms-in-LeftParen-clause-err c =
    let p = err_from_is_err_and c.from_residual-in_err-terms-in-LeftParen.result c.from_residual-in_err-terms-in-LeftParen.ensures.1 in
    rw (p.1, p.2) (item_terms_fails c.args.tokens.now c.in_ok-name.rest.now c.in_ok-name.name c.in_ok-name.ensures.ok _ (sym c.in-LeftParen.ensures)
    (rw c.split_at.ensures.back at c.in_err-terms-in-LeftParen.ensures.err))

pub returns-in_err-entries-in-LeftBrace-clause-err : goal.returns-in_err-entries-in-LeftBrace-clause-err
returns-in_err-entries-in-LeftBrace-clause-err c =
    let p = err_from_is_err_and c.from_residual-in_err-entries-in-LeftBrace.result c.from_residual-in_err-entries-in-LeftBrace.ensures.1 in
    rw (p.1, p.2) (item_group_fails c.args.tokens.now c.in_ok-name.rest.now c.in_ok-name.name c.in_ok-name.ensures.ok _ (sym c.in-LeftBrace.ensures)
    (rw c.split_at-in-LeftBrace.ensures.back at c.in_err-entries-in-LeftBrace.ensures.err))

pub returns-in_ok-terms-in-LeftParen-clause-ok : goal.returns-in_ok-terms-in-LeftParen-clause-ok
returns-in_ok-terms-in-LeftParen-clause-ok c =
    item_terms c.args.tokens.now c.in_ok-name.rest.now c.in_ok-name.name c.in_ok-name.ensures.ok _ c.in_ok-terms-in-LeftParen.rest.now
    (sym c.in-LeftParen.ensures)
    (rw c.split_at.ensures.back at c.in_ok-terms-in-LeftParen.ensures.ok)

pub returns-in_ok-entries-in-LeftBrace-clause-ok : goal.returns-in_ok-entries-in-LeftBrace-clause-ok
returns-in_ok-entries-in-LeftBrace-clause-ok c =
    item_group c.args.tokens.now c.in_ok-name.rest.now c.in_ok-name.name c.in_ok-name.ensures.ok _ c.in_ok-entries-in-LeftBrace.rest.now
    (sym c.in-LeftBrace.ensures)
    (rw c.split_at-in-LeftBrace.ensures.back at c.in_ok-entries-in-LeftBrace.ensures.ok)

pub returns-in_err-name-clause-err : goal.returns-in_err-name-clause-err
returns-in_err-name-clause-err c =
    let p = err_from_is_err_and c.from_residual.result c.from_residual.ensures.1 in
    rw (p.1, p.2) (item_name_fails c.args.tokens.now _ c.in_err-name.ensures.err)

pub returns-in_default-clause-err : goal.returns-in_default-clause-err
returns-in_default-clause-err c =
    item_rest_stops c.args.tokens.now c.in_ok-name.rest.now c.in_ok-name.name c.in_ok-name.ensures.ok (λ e. c.in_default.not-LeftParen (c.class_at.ensures ∙ e))
    (λ e. c.in_default.not-Dot (c.class_at.ensures ∙ e)) (λ e. c.in_default.not-LeftBrace (c.class_at.ensures ∙ e))

pub returns-in_ok-terms-in-LeftParen-clause-shorter : goal.returns-in_ok-terms-in-LeftParen-clause-shorter
returns-in_ok-terms-in-LeftParen-clause-shorter c =
    item_shorter c.args.tokens.now c.in_ok-name.rest.now c.in_ok-name.name c.in_ok-name.ensures.ok c.in_ok-terms-in-LeftParen.rest.now
    (rw c.split_at.ensures.back at c.in_ok-terms-in-LeftParen.ensures.ok)

pub returns-in_ok-entries-in-LeftBrace-clause-shorter : goal.returns-in_ok-entries-in-LeftBrace-clause-shorter
returns-in_ok-entries-in-LeftBrace-clause-shorter c =
    item_shorter c.args.tokens.now c.in_ok-name.rest.now c.in_ok-name.name c.in_ok-name.ensures.ok c.in_ok-entries-in-LeftBrace.rest.now
    (rw c.split_at-in-LeftBrace.ensures.back at c.in_ok-entries-in-LeftBrace.ensures.ok)

pub part-requires-clause-dot : goal.part-requires-clause-dot
part-requires-clause-dot c = sym c.in-Dot.ensures

pub returns-in-Dot-clause-ok : goal.returns-in-Dot-clause-ok
returns-in-Dot-clause-ok c = rw c.in_ok-name.ensures.ok.0 c.part.ensures.ok

pub returns-in-Dot-clause-shorter : goal.returns-in-Dot-clause-shorter
returns-in-Dot-clause-shorter c = rw c.in_ok-name.ensures.ok.0 c.part.ensures.shorter

pub returns-in-Dot-clause-err : goal.returns-in-Dot-clause-err
returns-in-Dot-clause-err c = rw c.in_ok-name.ensures.ok.0 c.part.ensures.err

pub split_at-requires : goal.split_at-requires
split_at-requires c = some_next c.in_ok-name.rest.now LeftParen (sym c.in-LeftParen.ensures) (λ z. cc)

pub split_at-requires-in-LeftBrace : goal.split_at-requires-in-LeftBrace
split_at-requires-in-LeftBrace c = some_next c.in_ok-name.rest.now LeftBrace (sym c.in-LeftBrace.ensures) (λ z. cc)
