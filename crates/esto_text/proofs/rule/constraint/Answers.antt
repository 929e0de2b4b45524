use Rattle.std.proofs.Common.{subst}
use Rattle.std.specs.List.{AllByRecursion}
use Rattle.std.specs.Prelude.{map}
use Rattle.std.proofs.lemmas.Result.{err_from_is_err_and}
use Rattle.esto_text.specs.Faults.{IsFalse}
use Rattle.esto_text.specs.View.{item_of, head_of}
use Rattle.esto_text.specs.Tokens.{StandsIn}
use Rattle.esto_text.proofs.RuleLemmas.{back_stands, no_body, no_head, constraint_is}
use Rattle.esto_text.proofs.rule.constraint.Goals as goal

pub returns-in_err-body-clause-err : goal.returns-in_err-body-clause-err
returns-in_err-body-clause-err c =
    let p = err_from_is_err_and c.from_residual.result c.from_residual.ensures.1 in
    rw (p.1, p.2) (no_body (IsFalse c.args.version c.args.bytes.now) c.args.tokens.now _ c.in_err-body.ensures.err)

pub returns-in_err-head-clause-err : goal.returns-in_err-head-clause-err
returns-in_err-head-clause-err c =
    let p = err_from_is_err_and c.from_residual-in_err-head.result c.from_residual-in_err-head.ensures.1 in
    rw (p.1, p.2)
    (no_head (IsFalse c.args.version c.args.bytes.now) c.args.tokens.now c.in_ok-body.rest.now (map item_of c.in_ok-body.body) c.in_ok-body.ensures.ok _
    c.in_err-head.ensures.none c.in_err-head.ensures.err)

pub returns-clause-ok : goal.returns-clause-ok
returns-clause-ok c =
    constraint_is (IsFalse c.args.version c.args.bytes.now) c.args.tokens.now c.in_ok-body.rest.now (map item_of c.in_ok-body.body) c.in_ok-body.ensures.ok
    (head_of c.in_ok-head.head) c.in_ok-head.ensures.ok

pub head-requires : goal.head-requires
head-requires c =
    back_stands (StandsIn c.args.bytes.now) c.in_ok-body.ensures.ok.0 c.in_ok-body.rest.now
    (subst (AllByRecursion (StandsIn c.args.bytes.now)) c.in_ok-body.ensures.ok.1 c.requires)
