use Rattle.std.proofs.Common.{[], ◌∷◌, List, ◌++◌}
use Rattle.esto_chase_laws.specs.Making.{is_variable_of}
use Rattle.std.proofs.Common.{Contains, refl, sym, ap, ◌∙◌, subst}
use Rattle.std.proofs.lemmas.Bool.{false≢true}
use Rattle.std.proofs.lemmas.Result.{on_ok_weaker}
use Rattle.esto_term.specs.declared.term.Term.{Term}
use Rattle.esto_constraint.proofs.FrontierLemmas.{not_a_variable, there_already, put_there}
use Rattle.esto_constraint.proofs.frontier.add_variable.Goals.{then-not-is_variable_of-via-then-not-is_variable_of}
use Rattle.esto_constraint.proofs.frontier.add_variable.Goals.{then-not-is_variable_of-via-else-not-is_variable_of+then-has_term}
use Rattle.esto_constraint.proofs.frontier.add_variable.Goals as goal

-- src/making.rt:40:9
pub returns-then-not-is_variable_of : goal.returns-then-not-is_variable_of
returns-then-not-is_variable_of c = elim c.then-not-is_variable_of.branch [
  | then-not-is_variable_of-via-then-not-is_variable_of w ↦
      not_a_variable c.args.shared.now c.args.shared.now (is_variable_of c.args.head.now) c.args.term.now
      (sym c.is_variable_of.ensures ∙ w.if-not-is_variable_of.true) refl
  | then-not-is_variable_of-via-else-not-is_variable_of+then-has_term w ↦
      there_already c.args.shared.now c.args.shared.now (is_variable_of c.args.head.now) c.args.term.now
      (subst (λ (it : List Term). Contains it c.args.term.now) w.items.ensures (w.has_term.ensures.0 w.if-has_term.true)) refl
]

-- src/making.rt:30:1
pub returns : goal.returns
returns c = on_ok_weaker c.push.result (λ pushed. put_there c.args.shared.now c.push.new.self (is_variable_of c.args.head.now) c.args.term.now
    (sym c.is_variable_of.ensures ∙ c.if-not-is_variable_of.false)
    (λ inside. false≢true (sym c.if-has_term.false
    ∙ c.has_term.ensures.1 (subst (λ (it : List Term). Contains it c.args.term.now) (sym c.items.ensures) inside)))
    (pushed ∙ ap (λ it. c.args.shared.now ++ it ∷ []) c.in_ok-copy.ensures)) c.push.ensures.ok
