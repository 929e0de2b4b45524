use Rattle.std.proofs.Common.{ap, ◌∙◌, take, arith}
use Rattle.esto_query.proofs.TrailLemmas.{Narrows-row, Excludes-row, Narrows-whole, Grew-then, Grew-take}
use Rattle.esto_query.proofs.trail.bind_row.Goals as goal
use Rattle.esto_term.proofs.ListLemmas.{Contains-read}

pub bind_term-requires : goal.bind_term-requires
bind_term-requires c = c.requires _ (Contains-read _ _ _ c.loop-at-test.true c.index-terms-at.is)

pub loop-at-preserved : goal.loop-at-preserved
loop-at-preserved c =
    let tried = rw c.in-Ok-true.field-0-test at c.in-Ok-true.ensures in
    record {
      grown = Grew-then _ _ _ c.loop-at.invariant.grown tried.0;
      narrowed = Narrows-row c.args.start.now c.args.trail.now.items c.loop-at.trail.items c.args.terms.now c.args.targets.now c.loop-at.at _ _ (omega arith)
          (omega arith) c.index-terms-at.is c.index-targets-at.is c.bind_term.new.trail.items c.loop-at.invariant.narrowed tried.1;
    }

pub returns-in-Ok-false : goal.returns-in-Ok-false
returns-in-Ok-false c =
    let tried = rw c.in-Ok-false.field-0-test at c.in-Ok-false.ensures in (
      c.truncate.ensures.items ∙ ap (take c.len-mark.result) tried.0
          ∙ Grew-take _ _ _ (omega (arith, c.args.trail.now.ok.0, c.len-mark.ensures)) c.loop-at.invariant.grown,
      Excludes-row c.args.start.now c.args.trail.now.items c.loop-at.trail.items c.args.terms.now c.args.targets.now c.loop-at.at _ _ (omega arith)
          (omega arith) c.index-terms-at.is c.index-targets-at.is c.loop-at.invariant.narrowed tried.1,
    )

pub returns : goal.returns
returns c = (
  c.loop-at.invariant.grown,
  Narrows-whole c.args.start.now c.args.trail.now.items c.loop-at.trail.items c.args.terms.now c.args.targets.now c.loop-at.at
      (omega arith) (omega arith) c.loop-at.invariant.narrowed,
)
