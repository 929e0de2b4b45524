use Rattle.std.proofs.Common.{sym}
use Rattle.std.proofs.lemmas.Result.{err_from_is_err_and}
use Rattle.esto_text.specs.View.{tree_of}
use Rattle.esto_text.proofs.SyntaxLemmas.{token_error, query_within, query_error, only_tree}
use Rattle.esto_text.proofs.LeafLemmas.{tree_stands}
use Rattle.esto_text.proofs.Unique.{query_one}
use Rattle.esto_text.specs.Grammar.{IsQuery}
use Rattle.esto_text.specs.Limits.{limited}
use Rattle.esto_text.proofs.syntax.read_query_tree.Goals as goal

pub returns-in-Ok-clause-only : goal.returns-in-Ok-clause-only
returns-in-Ok-clause-only c other h =
    only_tree IsQuery limited query_one c.args.bytes.now c.in_ok-tokens.tokens (tree_of c.in-Ok.query) c.in_ok-tokens.ensures.only
    (rw c.items-tokens.ensures at c.in-Ok.ensures.ok) other h

pub returns-in-Ok-clause-tokens : goal.returns-in-Ok-clause-tokens
returns-in-Ok-clause-tokens c = tree_stands c.args.bytes.now c.in_ok-tokens.tokens (tree_of c.in-Ok.query) c.in_ok-tokens.ensures.tokens.1
    (rw c.items-tokens.ensures at c.in-Ok.ensures.ok)

pub returns-in-Ok-clause-tree : goal.returns-in-Ok-clause-tree
returns-in-Ok-clause-tree c = (c.in_ok-tokens.tokens, c.in_ok-tokens.ensures.tokens, rw c.items-tokens.ensures at c.in-Ok.ensures.ok)

pub returns-in_err-tokens-clause-error : goal.returns-in_err-tokens-clause-error
returns-in_err-tokens-clause-error c =
    let p = err_from_is_err_and c.from_residual.result c.from_residual.ensures.1 in
    rw (p.1, p.2) (token_error IsQuery limited c.args.bytes.now _ c.in_err-tokens.ensures.error)

pub read_error-requires : goal.read_error-requires
read_error-requires c = query_within c.items-tokens.result.now c.in-Err.stop c.in-Err.ensures.err

pub returns-clause-error : goal.returns-clause-error
returns-clause-error c =
    rw c.read_error.ensures
    (query_error c.args.bytes.now c.items-tokens.result.now c.in-Err.stop (rw (sym c.items-tokens.ensures) at c.in_ok-tokens.ensures.tokens)
    c.in-Err.ensures.err)
