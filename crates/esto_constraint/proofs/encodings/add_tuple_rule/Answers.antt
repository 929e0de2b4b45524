use Rattle.esto_semantics.specs.Rules.{tuple}
use Rattle.esto_constraint.specs.Constraints.{rule_of}
use Rattle.esto_constraint.specs.EncodingRules.{written}
use Rattle.esto_constraint.proofs.EncodingLemmas.{put_last, sound_tuple}
use Rattle.esto_constraint.proofs.encodings.add_tuple_rule.Goals as goal

pub invariant_of-push : goal.invariant_of-push
invariant_of-push c = record {
  sound = ∣ sound_tuple _ _ _ c.in_ok-names.ensures c.args.relation c.args.other c.args.from.now c.args.to.now _ _
      c.in_ok-body.ensures c.in_ok-head.ensures
      c.requires.from_named c.requires.to_named ∣₁;
}

pub returns-clause-rules : goal.returns-clause-rules
returns-clause-rules c =
    put_last rule_of c.args.rules.now c.push.new.self _ _ c.push.result c.push.ensures.ok
    (λ i. tuple (c.in_ok-body.ensures i) (c.in_ok-head.ensures i))

pub returns-clause-names : goal.returns-clause-names
returns-clause-names c = put_last written c.args.rules.now c.push.new.self _ _ c.push.result c.push.ensures.ok c.in_ok-names.ensures
