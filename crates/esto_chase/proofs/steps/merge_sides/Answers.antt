use Rattle.std.proofs.Common.{◌≡◌}
use Rattle.std.specs.declared.cmp.Ordering.TheVariants.{Less}
use Rattle.esto_term.specs.Order.{term_cmp}
use Rattle.std.proofs.Common.{refl, subst, sym, ◌∙◌}
use Rattle.std.proofs.lemmas.Bool.{false≢true}
use Rattle.esto_chase_laws.proofs.GoingLemmas.{lesser_of_constant}
use Rattle.esto_chase.proofs.steps.merge_sides.Goals as goal

pub clash_of-requires-clause-one : goal.clash_of-requires-clause-one
clash_of-requires-clause-one c = let text = c.if-is_constant.ensures.0 refl in
    lesser_of_constant c.in_ok-to.to text.0 (subst (λ it. term_cmp c.in_ok-to.to it ≡ Less) text.1 c.in_ok-to.ensures.lesser)

pub returns-then-is_constant : goal.returns-then-is_constant
returns-then-is_constant c = record {
  from = c.in_ok-to.from;
  to = c.in_ok-to.to;
  sides = c.in_ok-to.ensures.sides;
  lesser = c.in_ok-to.ensures.lesser;
  texts = c.clash_of.ensures;
}

pub returns : goal.returns
returns c = record {
  from = c.in_ok-to.from;
  to = c.in_ok-to.to;
  sides = c.in_ok-to.ensures.sides;
  lesser = c.in_ok-to.ensures.lesser;
  no_constant = λ constant. false≢true (sym c.if-is_constant.false ∙ c.is_constant.ensures.1 constant);
  facts = c.in_ok-merge.ensures.facts;
  head = c.in_ok-merge.ensures.head;
  trace = c.in_ok-merge.ensures.trace;
}
