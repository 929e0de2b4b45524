use Rattle.std.proofs.Common.{◌∷◌, [], refl, arith, length, ap}
use Rattle.std.proofs.lemmas.Result.{err_from_is_err_and}
use Rattle.esto_text.specs.Grammar.{IsTerm, IsRow}
use Rattle.esto_text.specs.Machine.{ATerm, MoreTerms}
use Rattle.esto_text.proofs.RowLemmas.{row_fails, term_more, goes_begun, goes_done}
use Rattle.esto_text.proofs.rows.terms.Goals as goal

pub returns-in_err-more-clause-err : goal.returns-in_err-more-clause-err
returns-in_err-more-clause-err c =
    let p = err_from_is_err_and c.from_residual.result c.from_residual.ensures.1 in
    rw (p.1, p.2) (row_fails (IsRow IsTerm) (ATerm ∷ MoreTerms ∷ []) c.args.tokens.now c.terms.terms c.terms.rest.now c.terms.more c.terms-test.true
    c.terms.invariant _ c.in_err-more.ensures.err)

pub terms-preserved : goal.terms-preserved
terms-preserved c =
    let (term, sign, whole, is_term, ends, grown) = c.in_ok-more.ensures.ok in
    rw grown
    (term_more c.args.tokens.now c.terms.terms c.terms.rest.now c.terms.more c.terms-test.true c.terms.invariant term (sign ∷ _) _ _ (whole, is_term)
    (sign, refl, ends))

pub returns-clause-ok : goal.returns-clause-ok
returns-clause-ok c = goes_done (IsRow IsTerm) (ATerm ∷ MoreTerms ∷ []) [] c.args.tokens.now c.terms.terms c.terms.rest.now c.terms.more c.terms-test.false
    (c.terms.invariant [])

pub terms-init : goal.terms-init
terms-init c = rw c.new-terms.ensures (λ s. goes_begun (IsRow IsTerm) _ s c.args.tokens.now)

pub terms-smaller : goal.terms-smaller
terms-smaller c = omega (arith, ap length c.in_ok-more.ensures.ok.2)
