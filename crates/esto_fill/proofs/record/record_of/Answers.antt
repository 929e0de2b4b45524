use Rattle.std.proofs.Common.{map, ap, subst, ◌∙◌}
use Rattle.std.proofs.lemmas.Result.{IfOk-weaker}
use Rattle.esto_constraint.specs.Constraints.{rule_of}
use Rattle.esto_semantics.specs.Rules.{body_of}
use Rattle.esto_semantics.specs.Valuations.{map_of}
use Rattle.esto_fill.specs.Records.{AreNamedVariables, cell_of, one_at_least}
use Rattle.esto_fill.proofs.record.record_of.Goals as goal

pub returns : goal.returns
returns c =
    let variables = c.in_ok-variables.variables in
    IfOk-weaker c.one_at_least.result _ _ (λ it same. (
      variables,
      subst (λ names. AreNamedVariables names (body_of (rule_of c.args.rule.now)) variables) c.names_of.ensures
          (subst (λ body. AreNamedVariables c.names_of.result.now body variables) c.body_of.ensures c.in_ok-variables.ensures),
      same ∙ ap one_at_least (c.in_ok-cells.ensures ∙ ap (map (λ variable. cell_of (map_of c.args.valuation.now variable))) c.items.ensures),
    )) c.one_at_least.ensures
