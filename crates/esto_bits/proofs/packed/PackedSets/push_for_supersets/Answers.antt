use Rattle.std.proofs.Common.{◌∙◌, ◌++◌, ◌∷◌, [], ap, arith, filter, not, subst, sym}
use Rattle.std.proofs.lemmas.List.{take_all}
use Rattle.std.proofs.lemmas.Result.{on_ok_weaker}
use Rattle.esto_bits.specs.Kept.{Kept, is_within, kept}
use Rattle.esto_bits.specs.Words.{AreWordsBelow, set_of}
use Rattle.esto_bits.proofs.PackedLemmas.{left_next}
use Rattle.esto_bits.proofs.packed.PackedSets.push_for_supersets.Goals as goal

pub sets-init : goal.sets-init
sets-init c = c.requires.none

pub push_unless_superset-requires-clause-row : goal.push_unless_superset-requires-clause-row
push_unless_superset-requires-clause-row c = subst (λ (it : Kept). AreWordsBelow c.args.row.now it.count) (sym c.sets.invariant) c.requires.row

pub push_unless_superset-requires-clause-same_count : goal.push_unless_superset-requires-clause-same_count
push_unless_superset-requires-clause-same_count c = sym (ap (λ (it : Kept). it.count) c.sets.invariant)

pub sets-preserved : goal.sets-preserved
sets-preserved c =
    left_next c.args.others.now.sets c.args.others.now.count c.sets.at c.args.row.now (omega (arith, c.sets-test.true, c.len-at-end.ensures)) c.sets.self
    c.push_unless_superset.new.self c.sets.invariant c.in_ok-push_unless_superset.ensures

pub push-requires : goal.push-requires
push-requires c = subst (λ (it : Kept). AreWordsBelow c.args.row.now it.count) (sym c.sets.invariant) c.requires.row

pub returns : goal.returns
returns c =
    let count = c.args.others.now.count in
    let set = set_of c.args.row.now count in
    on_ok_weaker c.push.result (λ pushed. pushed
    ∙ ap (λ (it : Kept). kept it.count (it.sets ++ set_of c.args.row.now it.count ∷ [])) c.sets.invariant
    ∙ ap (λ sets. kept count (filter (λ other. not (is_within set other)) sets ++ set ∷ []))
    (take_all c.sets.at c.args.others.now.sets (omega (arith, c.sets-test.false, c.len-at-end.ensures)))) c.push.ensures.ok
