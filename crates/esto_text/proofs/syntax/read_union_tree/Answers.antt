use Rattle.std.proofs.Common.{map, sym}
use Rattle.std.proofs.lemmas.Result.{err_from_is_err_and}
use Rattle.esto_text.specs.View.{tree_of}
use Rattle.esto_text.proofs.SyntaxLemmas.{token_error, union_within, union_error, only_tree}
use Rattle.esto_text.proofs.LeafLemmas.{union_stands}
use Rattle.esto_text.proofs.UnionLemmas.{union_one}
use Rattle.esto_text.specs.Grammar.{IsUnion}
use Rattle.esto_text.specs.Limits.{limited_union}
use Rattle.esto_text.proofs.syntax.read_union_tree.Goals as goal

pub returns-in-Ok-clause-only : goal.returns-in-Ok-clause-only
returns-in-Ok-clause-only c other h =
    only_tree IsUnion limited_union union_one c.args.bytes.now c.in_ok-tokens.tokens (map tree_of c.in-Ok.queries) c.in_ok-tokens.ensures.only
    (rw c.items-tokens.ensures at c.in-Ok.ensures.ok) other h

pub returns-in-Ok-clause-tokens : goal.returns-in-Ok-clause-tokens
returns-in-Ok-clause-tokens c = union_stands c.args.bytes.now c.in_ok-tokens.tokens (map tree_of c.in-Ok.queries) c.in_ok-tokens.ensures.tokens.1
    (rw c.items-tokens.ensures at c.in-Ok.ensures.ok)

pub returns-in-Ok-clause-trees : goal.returns-in-Ok-clause-trees
returns-in-Ok-clause-trees c = (c.in_ok-tokens.tokens, c.in_ok-tokens.ensures.tokens, rw c.items-tokens.ensures at c.in-Ok.ensures.ok)

pub returns-in_err-tokens-clause-error : goal.returns-in_err-tokens-clause-error
returns-in_err-tokens-clause-error c =
    let p = err_from_is_err_and c.from_residual.result c.from_residual.ensures.1 in
    rw (p.1, p.2) (token_error IsUnion limited_union c.args.bytes.now _ c.in_err-tokens.ensures.error)

pub read_error-requires : goal.read_error-requires
read_error-requires c = union_within c.items-tokens.result.now c.in-Err.stop c.in-Err.ensures.err

pub returns-clause-error : goal.returns-clause-error
returns-clause-error c =
    rw c.read_error.ensures
    (union_error c.args.bytes.now c.items-tokens.result.now c.in-Err.stop (rw (sym c.items-tokens.ensures) at c.in_ok-tokens.ensures.tokens)
    c.in-Err.ensures.err)
