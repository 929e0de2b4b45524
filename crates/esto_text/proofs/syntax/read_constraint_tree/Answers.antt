use Rattle.std.proofs.Common.{sym}
use Rattle.std.proofs.lemmas.Result.{err_from_is_err_and}
use Rattle.esto_text.specs.Faults.{IsFalse}
use Rattle.esto_text.specs.Grammar.{IsConstraint}
use Rattle.esto_text.specs.View.{constraint_of}
use Rattle.esto_text.proofs.LeafLemmas.{tokens_stand, constraint_stands}
use Rattle.esto_text.proofs.SyntaxLemmas.{token_error, constraint_within, constraint_error, only_tree}
use Rattle.esto_text.proofs.Unique.{constraint_one}
use Rattle.esto_text.proofs.syntax.read_constraint_tree.Goals as goal

pub constraint-requires : goal.constraint-requires
constraint-requires c = rw c.items-tokens.ensures (tokens_stand c.args.bytes.now c.in_ok-tokens.tokens c.in_ok-tokens.ensures.tokens.1)

pub returns-in-Ok-clause-only : goal.returns-in-Ok-clause-only
returns-in-Ok-clause-only c other h =
    only_tree (IsConstraint (IsFalse c.args.version c.args.bytes.now)) (λ tokens. tokens) (constraint_one (IsFalse c.args.version c.args.bytes.now))
    c.args.bytes.now c.in_ok-tokens.tokens (constraint_of c.in-Ok.constraint) c.in_ok-tokens.ensures.only
    (rw c.items-tokens.ensures at c.in-Ok.ensures.ok) other h

pub returns-in-Ok-clause-tokens : goal.returns-in-Ok-clause-tokens
returns-in-Ok-clause-tokens c =
    constraint_stands c.args.bytes.now (IsFalse c.args.version c.args.bytes.now) c.in_ok-tokens.tokens (constraint_of c.in-Ok.constraint)
    c.in_ok-tokens.ensures.tokens.1 (rw c.items-tokens.ensures at c.in-Ok.ensures.ok)

pub returns-in-Ok-clause-tree : goal.returns-in-Ok-clause-tree
returns-in-Ok-clause-tree c = (c.in_ok-tokens.tokens, c.in_ok-tokens.ensures.tokens, rw c.items-tokens.ensures at c.in-Ok.ensures.ok)

pub returns-in_err-tokens-clause-error : goal.returns-in_err-tokens-clause-error
returns-in_err-tokens-clause-error c =
    let p = err_from_is_err_and c.from_residual.result c.from_residual.ensures.1 in
    rw (p.1, p.2) (token_error (IsConstraint (IsFalse c.args.version c.args.bytes.now)) (λ tokens. tokens) c.args.bytes.now _ c.in_err-tokens.ensures.error)

pub read_error-requires : goal.read_error-requires
read_error-requires c = constraint_within (IsFalse c.args.version c.args.bytes.now) c.items-tokens.result.now c.in-Err.stop c.in-Err.ensures.err

pub returns-clause-error : goal.returns-clause-error
returns-clause-error c =
    rw c.read_error.ensures
    (constraint_error (IsFalse c.args.version c.args.bytes.now) c.args.bytes.now c.items-tokens.result.now c.in-Err.stop
    (rw (sym c.items-tokens.ensures) at c.in_ok-tokens.ensures.tokens)
    c.in-Err.ensures.err)
