use Rattle.std.proofs.Common.{◌∷◌, refl}
use Rattle.std.proofs.lemmas.Result.{err_from_is_err_and}
use Rattle.esto_text.proofs.ItemLemmas.{part_name_fails, part_paren_fails, part_shorter, part_terms_fail, part_is}
use Rattle.esto_text.specs.declared.token.TokenKind.TheVariants.{Dot}
use Rattle.esto_text.proofs.PathLemmas.{some_next}
use Rattle.esto_text.proofs.reader.part.Goals as goal

pub returns-in_err-part-clause-err : goal.returns-in_err-part-clause-err
returns-in_err-part-clause-err c =
    let p = err_from_is_err_and c.from_residual.result c.from_residual.ensures.1 in
    rw (p.1, p.2) (part_name_fails (c.args.name ∷ c.args.tokens.now) c.args.tokens.now c.args.name (refl, c.requires.name) c.requires.dot _
    (rw c.split_at.ensures.back at c.in_err-part.ensures.err))

pub returns-in_err-rest-clause-err : goal.returns-in_err-rest-clause-err
returns-in_err-rest-clause-err c =
    let p = err_from_is_err_and c.from_residual-in_err-rest.result c.from_residual-in_err-rest.ensures.1 in
    rw (p.1, p.2) (part_paren_fails (c.args.name ∷ c.args.tokens.now) c.args.tokens.now c.args.name (refl, c.requires.name) c.requires.dot c.in_ok-part.part
    c.in_ok-part.rest.now
    (rw c.split_at.ensures.back at c.in_ok-part.ensures.ok) _ c.in_err-rest.ensures.err)

pub returns-in_err-terms-clause-err : goal.returns-in_err-terms-clause-err
returns-in_err-terms-clause-err c =
    let p = err_from_is_err_and c.from_residual-in_err-terms.result c.from_residual-in_err-terms.ensures.1 in
    rw (p.1, p.2) (part_terms_fail (c.args.name ∷ c.args.tokens.now) c.args.tokens.now c.args.name (refl, c.requires.name) c.requires.dot c.in_ok-part.part
    c.in_ok-part.rest.now
    (rw c.split_at.ensures.back at c.in_ok-part.ensures.ok) _ c.in_ok-rest.rest.now c.in_ok-rest.ensures.ok _ c.in_err-terms.ensures.err)

pub returns-clause-ok : goal.returns-clause-ok
returns-clause-ok c =
    part_is (c.args.name ∷ c.args.tokens.now) c.args.tokens.now c.args.name (refl, c.requires.name) c.requires.dot c.in_ok-part.part c.in_ok-part.rest.now
    (rw c.split_at.ensures.back at c.in_ok-part.ensures.ok) _ c.in_ok-rest.rest.now c.in_ok-rest.ensures.ok _ c.in_ok-terms.rest.now c.in_ok-terms.ensures.ok

pub returns-clause-shorter : goal.returns-clause-shorter
returns-clause-shorter c =
    part_shorter (c.args.name ∷ c.args.tokens.now) c.args.tokens.now c.args.name (refl, c.requires.name) c.requires.dot c.in_ok-part.part c.in_ok-part.rest.now
    (rw c.split_at.ensures.back at c.in_ok-part.ensures.ok) _ c.in_ok-rest.rest.now c.in_ok-rest.ensures.ok c.in_ok-terms.rest.now c.in_ok-terms.ensures.ok

pub split_at-requires : goal.split_at-requires
split_at-requires c = some_next c.args.tokens.now Dot c.requires.dot (λ z. cc)
