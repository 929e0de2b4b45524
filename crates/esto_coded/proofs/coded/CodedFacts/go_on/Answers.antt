use Rattle.std.proofs.Common.{◌++◌, List, refl, sym, subst, ◌∙◌}
use Rattle.esto_term.specs.declared.term.Term.{Term}
use Rattle.esto_semantics.specs.Maps.{IsFixedBy}
use Rattle.esto_semantics.specs.declared.fact.Fact.{Fact}
use Rattle.esto_steps.proofs.GrowthLemmas.{grows_refl}
use Rattle.esto_coded.specs.Answered.{IsCodedAnswer}
use Rattle.esto_coded.proofs.MeetLemmas.{none_are, told_over}
use Rattle.esto_coded.proofs.coded.CodedFacts.go_on.Goals as goal

pub returns-then-len-eq0-clause-stays : goal.returns-then-len-eq0-clause-stays
returns-then-len-eq0-clause-stays c = record {
  arities = refl;
  facts = λ facts stand. stand;
  ordered = λ facts stand. stand;
  grown = grows_refl c.args.self.now.texts;
}

pub returns-then-len-eq0-clause-texts : goal.returns-then-len-eq0-clause-texts
returns-then-len-eq0-clause-texts c = c.requires.texts

pub returns-then-len-eq0-clause-each : goal.returns-then-len-eq0-clause-each
returns-then-len-eq0-clause-each c facts stand = none_are c.args.rows.now.rows
    (IsCodedAnswer c.args.self.now (record { head = c.args.shared.now; body = c.args.body.now ++ c.args.head.now }) facts)
    (sym c.len.ensures ∙ c.if-len-eq0.true)

pub are_answers-requires : goal.are_answers-requires
are_answers-requires c term inside =
    subst (λ (both : List (Fact Term)). IsFixedBy both term) (sym (c.items.ensures ∙ c.in_ok-both.ensures)) (c.requires.fixed term inside)

pub returns-clause-each : goal.returns-clause-each
returns-clause-each c =
    told_over c.are_answers.result c.are_answers.new.self c.args.shared.now c.items.result.now (c.args.body.now ++ c.args.head.now) c.args.rows.now.rows
    (c.items.ensures ∙ c.in_ok-both.ensures) c.are_answers.ensures.each
