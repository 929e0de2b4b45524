use Rattle.std.proofs.Common.{ap, slice_index_or}
use Rattle.esto_term.specs.declared.term.Term.TheVariants.{Plain}
use Rattle.esto_semantics.specs.Rules.{equality}
use Rattle.esto_constraint.specs.Constraints.{rule_of}
use Rattle.esto_constraint.specs.EncodingRules.{written}
use Rattle.esto_constraint.proofs.EncodingLemmas.{put_last, sound_equality}
use Rattle.esto_constraint.proofs.encodings.add_equality_rule.Goals as goal

pub invariant_of-push : goal.invariant_of-push
invariant_of-push c = record {
  sound = ∣ sound_equality _ _ _ c.in_ok-names.ensures c.args.relation c.args.place c.args.first.now c.args.second.now _
      c.in_ok-body.ensures c.requires.in_first c.requires.in_second
      c.requires.first_named c.requires.second_named ∣₁;
}

pub returns-clause-rules : goal.returns-clause-rules
returns-clause-rules c =
    put_last rule_of c.args.rules.now c.push.new.self _ _ c.push.result c.push.ensures.ok
    (ap (λ body. equality body (Plain (slice_index_or c.args.first.now c.args.place 0)) (Plain (slice_index_or c.args.second.now c.args.place 0)))
    c.in_ok-body.ensures)

pub returns-clause-names : goal.returns-clause-names
returns-clause-names c = put_last written c.args.rules.now c.push.new.self _ _ c.push.result c.push.ensures.ok c.in_ok-names.ensures
