use Rattle.std.proofs.Common.{sym, ◌∙◌}
use Rattle.std.proofs.lemmas.Bool.{eqb-true, eqb-false, true≢false}
use Rattle.esto_text.specs.contracts.token.TokenKind.{the_type}
use denote.Enum.Bare.{same_true, same_false}
use Rattle.esto_text.proofs.RuleLemmas.{is_lone, is_not_lone}
use Rattle.esto_text.proofs.rule.is_denial.Goals.{then-is_empty, else-is_empty}
use Rattle.esto_text.proofs.rule.is_denial.Goals as goal

pub returns-then-eq : goal.returns-then-eq
returns-then-eq c =
    elim c.if-is_empty.branch [
      | then-is_empty w ↦
          let none = eqb-true _ 0 (sym c.is_empty.ensures ∙ w.if-is_empty.true) in
          let name = same_true the_type tt _ _ (sym w.eq.ensures ∙ sym w.value-is ∙ c.if-eq.true) in
          is_lone c.args.tokens.now _ _ c.in-Some.ensures.cases.0 none (sym w.class_at.ensures ∙ name) _ c.is_false.ensures
      | else-is_empty w ↦ absurd (true≢false (sym c.if-eq.true ∙ w.value-is ∙ w.if-is_empty.false))
    ]

pub returns-else-eq : goal.returns-else-eq
returns-else-eq c =
    is_not_lone c.args.tokens.now _ _ c.in-Some.ensures.cases.0 _ c.if-eq.false
    (elim c.if-is_empty.branch [
      | then-is_empty w ↦ λ none is. same_false the_type _ _ (sym w.eq.ensures ∙ sym w.value-is ∙ c.if-eq.false) (w.class_at.ensures ∙ is)
      | else-is_empty w ↦ λ none is. eqb-false _ 0 (sym c.is_empty.ensures ∙ w.if-is_empty.false) none
    ])
