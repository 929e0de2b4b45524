use Rattle.std.proofs.Common.{sym, ◌∙◌, arith}
use Rattle.std.proofs.lemmas.Bool.{false≢true}
use Rattle.esto_views.specs.Fragments.{weights_of}
use Rattle.esto_list.proofs.ItemLemmas.{weight_has, weight_lacks, weight_end, not_beyond}
use Rattle.esto_list.proofs.weight.weight_of.Goals.{then-number-count+then-has, else-number-count, else-number-count-via-then-number-count+else-has}
use Rattle.esto_list.proofs.weight.weight_of.Goals.{else-number-count-via-else-number-count}
use Rattle.esto_list.proofs.weight.weight_of.Goals as goal

pub atoms-preserved : goal.atoms-preserved
atoms-preserved c = elim c.if-number-count.branch [
  | then-number-count+then-has w ↦ record {
    few = omega (arith, c.atoms.invariant.few, w.weight-is);
    added = weight_has (weights_of c.args.fragments.now) c.args.plan.now.atoms c.items-atom-items.result.now c.items-atom-items.ensures c.args.set.now
        c.atoms.number c.atom-item.result c.atoms-test.true c.atom-item.is
        c.atoms.weight c.if-number-count.weight w.fragment_weight.result _ c.atoms.invariant.added
        (w.has.ensures.0 w.if-has.true) w.fragment_weight.ensures w.weight-is;
  }
  | else-number-count w ↦ record {
    few = omega (arith, c.atoms.invariant.few, w.weight-is);
    added = weight_lacks (weights_of c.args.fragments.now) c.args.plan.now.atoms c.items-atom-items.result.now c.items-atom-items.ensures c.args.set.now
        c.atoms.number c.atom-item.result c.atoms-test.true c.atom-item.is
        c.atoms.weight c.if-number-count.weight _ c.atoms.invariant.added
        (λ has. elim w.else-number-count.branch [
          | else-number-count-via-then-number-count+else-has w' ↦ false≢true (sym w'.if-has.false ∙ w'.has.ensures.1 has)
          | else-number-count-via-else-number-count w' ↦ not_beyond c.args.set.now c.atoms.number c.count.result c.count.ensures w'.if-number-count.false has
        ])
        w.weight-is;
  }
]

pub returns : goal.returns
returns c = weight_end (weights_of c.args.fragments.now) c.args.plan.now.atoms c.args.set.now c.items-atom-items.result.now c.items-atom-items.ensures
    c.atoms.number c.atoms.weight _ c.atoms-test.false c.atoms.invariant.added
