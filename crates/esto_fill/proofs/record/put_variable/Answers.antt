use Rattle.std.proofs.Common.{[], ◌∷◌, ◌++◌, sym, ap, ◌∙◌, subst, Contains}
use Rattle.std.proofs.lemmas.Bool.{false≢true}
use Rattle.std.proofs.lemmas.Result.{on_ok_weaker}
use Rattle.esto_fill.proofs.RecordLemmas.{adds_known, adds_new}
use Rattle.esto_fill.proofs.record.put_variable.Goals as goal

pub returns-then-has_term : goal.returns-then-has_term
returns-then-has_term c =
    adds_known c.args.names.now c.args.term.now c.args.variables.now (sym c.is_named.ensures ∙ c.if-not-is_named.false)
    (subst (λ those. Contains those c.args.term.now) c.items.ensures (c.has_term.ensures.0 c.if-has_term.true))

pub returns : goal.returns
returns c = on_ok_weaker c.push.result
    (λ pushed. adds_new c.args.names.now c.args.term.now c.args.variables.now c.push.new.self (sym c.is_named.ensures ∙ c.if-not-is_named.false)
    (λ inside. false≢true (sym c.if-has_term.false
    ∙ c.has_term.ensures.1 (subst (λ those. Contains those c.args.term.now) (sym c.items.ensures) inside)))
    (pushed ∙ ap (λ it. c.args.variables.now ++ it ∷ []) c.in_ok-own.ensures)) c.push.ensures.ok
