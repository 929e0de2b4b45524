use Rattle.std.proofs.Common.{[], refl, sym, subst}
use Rattle.std.proofs.lemmas.List.{take_all}
use Rattle.std.proofs.lemmas.Option.{slice_get_read}
use Rattle.esto_views.specs.Reading.{AreFirstOccurrences}
use Rattle.esto_views.proofs.ReadingLemmas.{seen_none}
use Rattle.esto_views.proofs.reading.seen_in.Goals as goal

pub read_term-requires : goal.read_term-requires
read_term-requires c =
    rw c.items-term-items.ensures at (slice_get_read _ _ c.terms.place c.term-item.result refl c.terms-test.true c.term-item.is)

pub terms-init : goal.terms-init
terms-init c = subst (AreFirstOccurrences []) (sym c.new-seen.ensures) seen_none

pub terms-preserved : goal.terms-preserved
terms-preserved c = c.in_ok-read_term.ensures c.terms.invariant

pub returns : goal.returns
returns c =
    subst (λ it. AreFirstOccurrences it c.terms.seen) (take_all c.terms.place c.args.terms.now (rw c.items-term-items.ensures at c.terms-test.false))
    c.terms.invariant
