use Rattle.std.proofs.Common.{◌≡◌, ◌∙◌, Some, slice_get, subst, sym}
use Rattle.std.proofs.lemmas.Bool.{false≢true}
use Rattle.std.proofs.lemmas.Result.{on_ok_weaker}
use Rattle.esto_bits.specs.Words.{AreWordsBelow, set_of}
use Rattle.esto_bits.proofs.PackedLemmas.{passed_over, put_behind}
use Rattle.esto_bits.proofs.packed.PackedSets.push_unless_superset.Goals as goal

pub push-requires : goal.push-requires
push-requires c = subst (AreWordsBelow c.words_at-words.result.now) c.requires.same_count c.words_at-words.ensures.below

pub returns-then-row_within : goal.returns-then-row_within
returns-then-row_within c =
    let words = c.words_at-words.result.now in
    passed_over c.args.self.now c.args.row.now words c.requires.row (subst (AreWordsBelow words) c.requires.same_count c.words_at-words.ensures.below)
    c.args.others.now.sets c.args.at
    (subst (λ count. slice_get c.args.others.now.sets c.args.at ≡ Some (set_of words count)) c.requires.same_count c.words_at-words.ensures.set)
    (c.row_within.ensures.within.0 c.if-row_within.true)

pub returns : goal.returns
returns c =
    let words = c.words_at-words.result.now in
    on_ok_weaker c.push.result
    (put_behind c.args.self.now c.args.row.now words c.requires.row
    (subst (AreWordsBelow words) c.requires.same_count c.words_at-words.ensures.below)
    c.args.others.now.sets c.args.at
    (subst (λ count. slice_get c.args.others.now.sets c.args.at ≡ Some (set_of words count)) c.requires.same_count c.words_at-words.ensures.set)
    c.row_within.ensures.fits (λ lack. false≢true (sym c.if-row_within.false ∙ c.row_within.ensures.within.1 lack)) c.push.new.self) c.push.ensures.ok
