use Rattle.std.proofs.Common.{◌↔◌, ◌∙◌, IsTrue, ap, subst, sym}
use Rattle.esto_term.specs.Sets.{Covers}
use Rattle.esto_bits.specs.Kept.{Kept}
use Rattle.esto_bits.proofs.ProductLemmas.{covers_row}
use Rattle.esto_bits.proofs.products.Products.covered.Goals as goal

pub returns : goal.returns
returns c =
    subst (λ (it : Kept). IsTrue c.covers.result ↔ Covers it.sets c.args.set.now) c.self.view_is
    (covers_row c.args.set.now c.self.inside.packed c.words.result.now (c.requires ∙ sym (ap (λ (it : Kept). it.count) c.self.view_is))
    c.words.ensures.set c.covers.result c.covers.ensures)
