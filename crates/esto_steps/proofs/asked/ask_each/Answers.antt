use Rattle.std.proofs.Common.{◌<◌, [], ap, sym, subst, ◌∙◌, arith}
use Rattle.esto_columns.specs.CodedRows.{CodedRows}
use Rattle.esto_steps.proofs.AskedLemmas.{IsAskedBelow, none_asked, asked_turn, asked_all}
use Rattle.esto_steps.proofs.asked.ask_each.Goals as goal

pub rows-init : goal.rows-init
rows-init g c = (
  subst (IsAskedBelow c.args.get.now (g.F.Fragment.rows c.args.fragment.now) c.args.so_far.now.rows 0 c.args.seen.now.rows)
      (sym (ap (λ (it : CodedRows). it.rows) c.requires.none))
      (subst (λ them. IsAskedBelow c.args.get.now (g.F.Fragment.rows c.args.fragment.now) c.args.so_far.now.rows 0 them [])
      (sym (ap (λ (it : CodedRows). it.rows) c.requires.unseen)) (none_asked c.args.get.now (g.F.Fragment.rows c.args.fragment.now) c.args.so_far.now.rows)),
  ap (λ (it : CodedRows). it.arity) c.requires.none,
  ap (λ (it : CodedRows). it.arity) c.requires.unseen,
)

pub ask-requires-clause-there : goal.ask-requires-clause-there
ask-requires-clause-there g c = subst (λ it. c.rows.at < it) c.len-at-end.ensures c.rows-test.true

pub ask-requires-clause-arity : goal.ask-requires-clause-arity
ask-requires-clause-arity g c = c.rows.invariant.1

pub ask-requires-clause-width : goal.ask-requires-clause-width
ask-requires-clause-width g c = c.rows.invariant.2

pub rows-preserved : goal.rows-preserved
rows-preserved g c = (
  asked_turn c.args.get.now (g.F.Fragment.rows c.args.fragment.now) c.args.so_far.now.rows c.rows.at c.rows.seen.rows c.rows.asked.rows c.ask.new.seen.rows
      c.ask.new.asked.rows (subst (λ it. c.rows.at < it) c.len-at-end.ensures c.rows-test.true) c.rows.invariant.0 c.in_ok-ask.ensures.kept
      c.in_ok-ask.ensures.sound c.in_ok-ask.ensures.answered c.in_ok-ask.ensures.complete,
  c.in_ok-ask.ensures.arity ∙ c.rows.invariant.1,
  c.in_ok-ask.ensures.width ∙ c.rows.invariant.2,
)

pub returns-clause-sound : goal.returns-clause-sound
returns-clause-sound g c = c.rows.invariant.0.sound

pub returns-clause-complete : goal.returns-clause-complete
returns-clause-complete g c =
    asked_all c.args.get.now (g.F.Fragment.rows c.args.fragment.now) c.args.so_far.now.rows c.rows.seen.rows c.rows.asked.rows c.rows.at
    (let past = c.rows-test.false in let count = c.len-at-end.ensures in omega (arith, past, count)) c.rows.invariant.0
