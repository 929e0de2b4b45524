use Rattle.std.proofs.Common.{◌∙◌, arith, refl, sym}
use Rattle.esto_bits.proofs.PackedLemmas.{pushed, width_some}
use Rattle.esto_bits.proofs.PageLemmas.{pages_behind, pages_here, pages_within}
use Rattle.esto_bits.proofs.packed.PackedSets.push.Goals as goal

pub note_page-requires-clause-within : goal.note_page-requires-clause-within
note_page-requires-clause-within c =
    let few = pages_within c.self.inside.words.items _ c.self.inside.many _ (width_some c.self.inside.count)
    c.self.invariant.packed.whole c.self.invariant.noted in
    omega (arith, few)

pub note_page-requires-clause-pages : goal.note_page-requires-clause-pages
note_page-requires-clause-pages c =
    pages_here (c.as_slice.ensures.value ∙ c.in-Ok.ensures.items) c.words_for.ensures refl
    (pages_behind c.self.inside.words.items c.args.row.now _ _ (width_some c.self.inside.count) c.self.invariant.noted)

pub invariant_of-self : goal.invariant_of-self
invariant_of-self c = record {
  packed = (pushed _ _ _ c.self.invariant.packed _ c.self.view_is _ c.requires _ c.in-Ok.ensures.items).0;
  noted = pages_here (sym c.as_slice.ensures.value) (sym c.words_for.ensures) refl c.note_page.ensures.pages;
}

pub returns-in-Ok-clause-ok : goal.returns-in-Ok-clause-ok
returns-in-Ok-clause-ok c = (pushed _ _ _ c.self.invariant.packed _ c.self.view_is _ c.requires _ c.in-Ok.ensures.items).1
