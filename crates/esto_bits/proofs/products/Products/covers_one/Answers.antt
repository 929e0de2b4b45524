use Rattle.std.proofs.Common.{◌≡◌, ◌∙◌, IfSome, IsTrue, Some, ap, slice_get, subst, sym}
use Rattle.std.specs.Prelude.{◌↔◌}
use Rattle.esto_term.specs.Sets.{Covers}
use Rattle.esto_bits.specs.Kept.{Kept}
use Rattle.esto_bits.specs.Words.{AreWordsBelow, set_of}
use Rattle.esto_bits.proofs.products.Products.covers_one.Goals as goal

pub covers-requires : goal.covers-requires
covers-requires c =
    subst (AreWordsBelow c.words_at.result.now)
    (ap (λ (it : Kept). it.count) c.others.view_is ∙ c.requires.same_count ∙ sym (ap (λ (it : Kept). it.count) c.self.view_is)) c.words_at.ensures.below

pub returns : goal.returns
returns c =
    let words = c.words_at.result.now in
    let there : slice_get c.args.others.now.sets c.args.at ≡ Some (set_of words c.args.self.now.count) =
    subst (λ count. slice_get c.args.others.now.sets c.args.at ≡ Some (set_of words count)) c.requires.same_count
    (subst (λ (it : Kept). slice_get it.sets c.args.at ≡ Some (set_of words it.count)) c.others.view_is c.words_at.ensures.set) in
    subst (λ it. IfSome it (λ set. IsTrue c.covers.result ↔ Covers c.args.self.now.sets set)) (sym there)
    (subst (λ (it : Kept). IsTrue c.covers.result ↔ Covers it.sets (set_of words it.count)) c.self.view_is c.covers.ensures)
