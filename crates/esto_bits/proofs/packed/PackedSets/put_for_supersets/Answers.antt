use Rattle.std.proofs.Common.{◌∙◌, ◌++◌, ◌∷◌, [], ap, sym}
use Rattle.std.proofs.lemmas.Bool.{false≢true}
use Rattle.std.proofs.lemmas.Result.{on_ok_weaker}
use Rattle.esto_bits.specs.Kept.{kept}
use Rattle.esto_bits.specs.Words.{set_of}
use Rattle.esto_bits.proofs.PackedLemmas.{none_left_out}
use Rattle.esto_bits.proofs.packed.PackedSets.put_for_supersets.Goals as goal

pub returns-then-not-has_superset-clause-ok : goal.returns-then-not-has_superset-clause-ok
returns-then-not-has_superset-clause-ok c =
    let set = set_of c.args.row.now c.args.self.now.count in
    on_ok_weaker c.push.result (λ pushed. pushed
    ∙ ap (λ sets. kept c.args.self.now.count (sets ++ set ∷ []))
    (sym (none_left_out c.args.self.now.sets set (λ some. false≢true (sym c.if-not-has_superset.true ∙ c.has_superset.ensures.1 some))))) c.push.ensures.ok

pub push_for_supersets-requires-clause-none : goal.push_for_supersets-requires-clause-none
push_for_supersets-requires-clause-none c = c.new-rest.ensures ∙ ap (λ count. kept count []) c.count.ensures

pub returns-clause-ok : goal.returns-clause-ok
returns-clause-ok c = c.in_ok-push_for_supersets.ensures
