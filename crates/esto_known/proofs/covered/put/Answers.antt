use Rattle.std.proofs.Common.{Contains, sym, subst, ◌∙◌}
use Rattle.std.proofs.lemmas.Bool.{false≢true}
use Rattle.std.proofs.lemmas.Result.{on_ok_weaker}
use Rattle.esto_known.proofs.TellLemmas.{put_apart, put_there, put_last}
use Rattle.esto_known.proofs.covered.put.Goals as goal

pub returns-then-not-has_term : goal.returns-then-not-has_term
returns-then-not-has_term c = put_apart c.args.from.now c.args.these.now c.args.term.now
    (λ inside. false≢true (sym c.if-not-has_term.true ∙ c.has_term.ensures.1 inside))

pub returns-then-has_term : goal.returns-then-has_term
returns-then-has_term c = put_there c.args.from.now c.args.these.now c.args.term.now
    (subst (λ its. Contains its c.args.term.now) c.items.ensures (c.has_term-2.ensures.0 c.if-has_term.true))

pub returns : goal.returns
returns c = on_ok_weaker c.push.result (λ pushed. put_last c.args.from.now c.args.these.now c.args.term.now c.push.new.self _ pushed c.in_ok-own.ensures
    (c.has_term.ensures.0 c.if-not-has_term.false)) c.push.ensures.ok
