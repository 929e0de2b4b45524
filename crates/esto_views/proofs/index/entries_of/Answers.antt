use Rattle.std.proofs.Common.{refl, subst}
use Rattle.std.proofs.lemmas.List.{take_all}
use Rattle.esto_views.specs.Indexes.{AreEntries}
use Rattle.esto_views.proofs.IndexLemmas.{entries_more}
use Rattle.esto_views.proofs.index.entries_of.Goals as goal

pub terms-preserved : goal.terms-preserved
terms-preserved c =
    entries_more c.args.terms.now c.terms.place c.index-terms-place.result c.terms.entries.items c.push.new.self.items _ c.terms-test.true
    c.index-terms-place.is c.in-Ok.ensures.items refl refl c.terms.invariant

pub returns : goal.returns
returns c = subst (λ it. AreEntries it c.terms.entries.items) (take_all c.terms.place c.args.terms.now c.terms-test.false) c.terms.invariant
