use Rattle.std.proofs.Common.{◌≡◌, ◌∙◌, Some, slice_get, subst, sym}
use Rattle.esto_bits.specs.Words.{AreWordsBelow, set_of}
use Rattle.esto_bits.proofs.PackedLemmas.{part_is, room_read, words_below, words_set}
use Rattle.esto_bits.proofs.packed.PackedSets.words_at.Goals as goal

pub part-requires : goal.part-requires
part-requires c =
    room_read _ _ _ c.self.invariant.packed _ c.self.view_is c.args.at c.requires _ c.as_slice.ensures.value _ c.words_for.ensures

pub returns-clause-below : goal.returns-clause-below
returns-clause-below c =
    subst (λ them. AreWordsBelow them c.args.self.now.count) (sym (c.part.ensures ∙ part_is c.self.inside.count c.args.at c.as_slice.ensures.value
    c.words_for.ensures))
    (words_below _ _ _ c.self.invariant.packed _ c.self.view_is c.args.at c.requires)

pub returns-clause-set : goal.returns-clause-set
returns-clause-set c =
    subst (λ them. slice_get c.args.self.now.sets c.args.at ≡ Some (set_of them c.args.self.now.count))
    (sym (c.part.ensures ∙ part_is c.self.inside.count c.args.at c.as_slice.ensures.value c.words_for.ensures))
    (words_set _ _ _ c.self.invariant.packed _ c.self.view_is c.args.at c.requires)
