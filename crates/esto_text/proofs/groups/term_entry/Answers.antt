use Rattle.std.proofs.Common.{refl}
use Rattle.std.proofs.lemmas.Result.{err_from_is_err_and}
use Rattle.esto_text.specs.declared.token.TokenKind.TheVariants.{Colon}
use Rattle.esto_text.proofs.PathLemmas.{some_next}
use Rattle.esto_text.proofs.groups.term_entry.Goals as goal

pub returns-in_err-term-clause-err : goal.returns-in_err-term-clause-err
returns-in_err-term-clause-err c =
    let p = err_from_is_err_and c.from_residual.result c.from_residual.ensures.1 in
    rw (p.1, p.2) (rw c.split_at.ensures.back at c.in_err-term.ensures.err)

pub returns-clause-ok : goal.returns-clause-ok
returns-clause-ok c =
    let takes = rw c.split_at.ensures.back at c.in_ok-term.ensures.ok in (c.in_ok-term.term, takes.0, takes.1, refl)

pub split_at-requires : goal.split_at-requires
split_at-requires c = some_next c.args.tokens.now Colon c.requires (λ z. cc)
