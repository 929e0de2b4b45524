use Rattle.std.proofs.Common.{◌∙◌, ap, arith, subst, sym}
use Rattle.std.proofs.lemmas.List.{take_all}
use Rattle.esto_term.proofs.ListLemmas.{thing_at}
use Rattle.esto_bits.specs.Kept.{CoversEither, Kept, with_sets}
use Rattle.esto_bits.proofs.JoinLemmas.{added_next, covers-with_sets, has_first, with_sets-antichain}
use Rattle.esto_bits.proofs.products.Products.add_all.Goals as goal

pub add_at-requires-clause-same_count : goal.add_at-requires-clause-same_count
add_at-requires-clause-same_count c = c.requires ∙ sym c.sets.invariant.count

pub sets-preserved : goal.sets-preserved
sets-preserved c =
    let here = thing_at c.args.others.now.sets c.sets.at (omega (arith, c.sets-test.true, c.len-at-end.ensures)) in
    record {
      count = c.add_at.ensures.count ∙ c.sets.invariant.count;
      sets =
          added_next c.args.self.now.sets c.sets.self.sets c.add_at.new.self.sets c.args.others.now.sets c.sets.at here.0 here.1
          (c.in_ok-add_at.ensures.ok here.0 here.1) c.sets.invariant.sets;
    }

pub returns-in_err-add_at-clause-err : goal.returns-in_err-add_at-clause-err
returns-in_err-add_at-clause-err c =
    has_first c.from_residual-in_err-add_at.result c.args.self.now.sets c.args.others.now.sets c.add_at.new.self.sets c.sets.at
    (ap (λ (it : Kept). it.sets) c.in_err-add_at.ensures.err ∙ c.sets.invariant.sets)

pub returns-clause-ok : goal.returns-clause-ok
returns-clause-ok c =
    c.sets.invariant.sets ∙ ap (with_sets c.args.self.now.sets)
    (take_all c.sets.at c.args.others.now.sets (omega (arith, c.sets-test.false, c.len-at-end.ensures)))

pub returns-clause-covers : goal.returns-clause-covers
returns-clause-covers c =
    subst (CoversEither c.args.self.now.sets c.args.others.now.sets) (sym (returns-clause-ok c)) (covers-with_sets c.args.self.now.sets c.args.others.now.sets)

pub returns-then-is_empty-clause-ok : goal.returns-then-is_empty-clause-ok
returns-then-is_empty-clause-ok c =
    ap (λ (it : Kept). it.sets) c.in_ok-self.ensures
    ∙ with_sets-antichain c.args.self.now.sets c.args.others.now.sets (c.is_empty.ensures.0 c.if-is_empty.true) c.products_are_antichains.ensures.antichain

pub returns-then-is_empty-clause-covers : goal.returns-then-is_empty-clause-covers
returns-then-is_empty-clause-covers c =
    subst (CoversEither c.args.self.now.sets c.args.others.now.sets) (sym (returns-then-is_empty-clause-ok c))
    (covers-with_sets c.args.self.now.sets c.args.others.now.sets)
