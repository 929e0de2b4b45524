use Rattle.std.proofs.Common.{◌∙◌, sym, arith}
use Rattle.esto_top.proofs.AtomLemmas.{after_nothing, all_done, none_more, one_more}
use Rattle.esto_top.proofs.command.numbers_of.Goals as goal

pub words-init : goal.words-init
words-init c = after_nothing c.new-numbers.result _ c.new-numbers.ensures

pub returns-in_default : goal.returns-in_default
returns-in_default c =
    none_more (λ word. word.now) c.args.words.now c.words.word-index _ c.words-test.true c.words.numbers c.words.before _ c.words.invariant
    (sym c.number_above.ensures ∙ c.in_default.is)

pub words-preserved : goal.words-preserved
words-preserved c =
    one_more (λ word. word.now) c.args.words.now c.words.word-index _ c.words-test.true c.words.numbers c.words.before _ c.words.invariant
    c.in-Some.number (sym c.number_above.ensures ∙ c.in-Some.is) c.push.new.self c.in_ok-push.ensures.ok

pub returns : goal.returns
returns c =
    all_done (λ word. word.now) c.args.words.now c.words.word-index (omega (arith, c.words-test.false)) c.words.numbers c.words.before _ c.words.invariant
