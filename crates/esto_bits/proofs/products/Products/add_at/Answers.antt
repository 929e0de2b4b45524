use Rattle.std.proofs.Common.{◌≡◌, ◌∙◌, Some, ap, slice_get, subst}
use Rattle.std.proofs.lemmas.Result.{on_ok_weaker}
use Rattle.esto_bits.specs.Kept.{Kept, with_set}
use Rattle.esto_bits.specs.Words.{AreWordsBelow, set_of}
use Rattle.esto_bits.proofs.ProductLemmas.{same_there}
use Rattle.esto_bits.proofs.products.Products.add_at.Goals as goal

pub add_words-requires : goal.add_words-requires
add_words-requires c =
    subst (AreWordsBelow c.words_at.result.now) (ap (λ (it : Kept). it.count) c.others.view_is ∙ c.requires.same_count) c.words_at.ensures.below

pub returns-clause-ok : goal.returns-clause-ok
returns-clause-ok c =
    let words = c.words_at.result.now in
    let own : slice_get c.args.others.now.sets c.args.at ≡ Some (set_of words c.args.self.now.count) =
    subst (λ count. slice_get c.args.others.now.sets c.args.at ≡ Some (set_of words count)) c.requires.same_count
    (subst (λ (it : Kept). slice_get it.sets c.args.at ≡ Some (set_of words it.count)) c.others.view_is c.words_at.ensures.set) in
    on_ok_weaker c.add_words.result
    (λ now set there. now ∙ ap (with_set c.args.self.now.sets) (same_there c.args.others.now.sets c.args.at _ set own there)) c.add_words.ensures.ok
