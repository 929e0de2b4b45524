use Rattle.std.proofs.Common.{◌<◌, [], take, sym, subst, ap, ◌∙◌, arith}
use Rattle.esto_columns.specs.CodedRows.{CodedRows}
use Rattle.esto_steps.specs.Reads.{AreStood}
use Rattle.esto_steps.proofs.ReadLemmas.{stood_none, stood_all}
use Rattle.esto_steps.proofs.reads.push_firsts.Goals as goal

pub rows-init : goal.rows-init
rows-init c = (
  subst (AreStood c.args.cells.now (take 0 c.args.rows.now.rows) c.args.seen.now.rows) (sym (ap (λ (it : CodedRows). it.rows) c.requires.none))
      (subst (λ them. AreStood c.args.cells.now (take 0 c.args.rows.now.rows) them []) (sym (ap (λ (it : CodedRows). it.rows) c.requires.unseen))
      (stood_none c.args.cells.now)),
  ap (λ (it : CodedRows). it.arity) c.requires.none,
  ap (λ (it : CodedRows). it.arity) c.requires.unseen,
)

pub push_first-requires-clause-there : goal.push_first-requires-clause-there
push_first-requires-clause-there c = subst (λ it. c.rows.at < it) c.len-at-end.ensures c.rows-test.true

pub push_first-requires-clause-arity : goal.push_first-requires-clause-arity
push_first-requires-clause-arity c = c.rows.invariant.1

pub push_first-requires-clause-width : goal.push_first-requires-clause-width
push_first-requires-clause-width c = c.rows.invariant.2

pub rows-preserved : goal.rows-preserved
rows-preserved c = (
  c.in_ok-push_first.ensures.stand c.rows.invariant.0,
  c.in_ok-push_first.ensures.arity ∙ c.rows.invariant.1,
  c.in_ok-push_first.ensures.width ∙ c.rows.invariant.2,
)

pub returns : goal.returns
returns c = stood_all c.args.cells.now c.args.rows.now.rows c.rows.seen.rows c.rows.few.rows c.rows.at
    (let past = c.rows-test.false in let count = c.len-at-end.ensures in omega (arith, past, count)) c.rows.invariant.0
