use Rattle.std.proofs.Common.{arith}
use Rattle.std.proofs.lemmas.Result.{err_from_is_err_and}
use Rattle.esto_text.proofs.PathLemmas.{path_begins, path_goes, path_fails}
use Rattle.esto_text.proofs.paths.put_path.Goals as goal

pub returns-in_err-step-2-clause-err : goal.returns-in_err-step-2-clause-err
returns-in_err-step-2-clause-err c =
    let p = err_from_is_err_and c.from_residual-in_err-step-2.result c.from_residual-in_err-step-2.ensures.1 in
    rw (p.1, p.2) (path_fails c.args.tokens.now c.steps.rest.now c.steps.path _ c.steps.invariant.taken c.in_err-step-2.ensures.err)

pub steps-preserved : goal.steps-preserved
steps-preserved c =
    let taken = rw c.in-Some.is at c.in_ok-step-2.ensures.ok in
    let shorter = rw c.in-Some.is at c.in_ok-step-2.ensures.shorter in
    record {
      taken = rw c.in_ok-push-2.ensures.ok (path_goes c.args.tokens.now c.steps.rest.now c.in-Some.after.now c.steps.path c.in-Some.step
          c.steps.invariant.taken taken);
      shorter = omega (arith, shorter, c.steps.invariant.shorter);
    }

pub steps-init : goal.steps-init
steps-init c = record {
  taken = rw (c.in_ok-push.ensures.ok, c.requires) (path_begins c.args.tokens.now c.in_ok-step.rest.now c.in_ok-step.step c.in_ok-step.ensures.ok);
  shorter = c.in_ok-step.ensures.shorter;
}

pub steps-smaller : goal.steps-smaller
steps-smaller c = rw c.in-Some.is at c.in_ok-step-2.ensures.shorter

pub returns-clause-ok : goal.returns-clause-ok
returns-clause-ok c = c.steps.invariant.taken

pub returns-clause-shorter : goal.returns-clause-shorter
returns-clause-shorter c = c.steps.invariant.shorter

pub returns-in_err-step-clause-err : goal.returns-in_err-step-clause-err
returns-in_err-step-clause-err c =
    let p = err_from_is_err_and c.from_residual.result c.from_residual.ensures.1 in rw (p.1, p.2) c.in_err-step.ensures.err

pub returns-in_err-push-clause-err : goal.returns-in_err-push-clause-err
returns-in_err-push-clause-err c =
    let p = err_from_is_err_and c.from_residual-in_err-push.result c.from_residual-in_err-push.ensures.1 in rw (p.1, p.2) (λ n s. tt)

pub returns-in_err-push-2-clause-err : goal.returns-in_err-push-2-clause-err
returns-in_err-push-2-clause-err c =
    let p = err_from_is_err_and c.from_residual-in_err-push-2.result c.from_residual-in_err-push-2.ensures.1 in rw (p.1, p.2) (λ n s. tt)
