use Rattle.std.proofs.Common.{ap, ◌∙◌, get_or, subst, arith}
use Rattle.esto_chase_laws.specs.declared.entry.Entry.{Entry}
use Rattle.esto_chase_laws.specs.declared.entry.Reason.TheVariants as reason
use Rattle.esto_prov.specs.Derivations.{AreWhys, IsWhy}
use Rattle.esto_prov.specs.Derivations.IsWhy.{expanded, step, same}
use Rattle.esto_prov.proofs.WhyLemmas.{below_step, below_chain, has_reason, whys_more, place_below}
use Rattle.esto_prov.proofs.PutLemmas.{put_has}
use Rattle.esto_prov.proofs.why.+why.Goals as goal

pub why_of-whys_of-requires : goal.why_of-whys_of-requires
why_of-whys_of-requires t c = (
  omega (arith, c.decreases),
  (
    below_step c.args.entries.now c.args.at c.index-entries-at.result c.in-Step.number c.in-Step.places c.items.result.now
        c.requires.within c.index-entries-at.is (ap (λ (it : Entry). it.reason) c.index-entries-at.is ∙ c.in-Step.is) c.items.ensures c.requires.reasoned,
    (omega (arith, c.requires.within), c.requires.reasoned),
  ),
)

pub why_of-whys_of-requires-in-Equal : goal.why_of-whys_of-requires-in-Equal
why_of-whys_of-requires-in-Equal t c = (
  omega (arith, c.decreases),
  (
    below_chain c.args.entries.now c.args.at c.index-entries-at.result c.in-Equal.places c.items-in-Equal.result.now
        c.requires.within c.index-entries-at.is
        (ap (λ (it : Entry). it.reason) c.index-entries-at.is ∙ c.in-Equal.is) c.items-in-Equal.ensures c.requires.reasoned,
    (omega (arith, c.requires.within), c.requires.reasoned),
  ),
)

pub why_of-returns-in-Expanded : goal.why_of-returns-in-Expanded
why_of-returns-in-Expanded t c =
    expanded c.args.at c.in-Expanded.atom c.in-Expanded.place
    (has_reason c.args.entries.now c.args.at c.index-entries-at.result (reason.Expanded c.in-Expanded.atom c.in-Expanded.place)
    c.requires.within c.index-entries-at.is (ap (λ (it : Entry). it.reason) c.index-entries-at.is ∙ c.in-Expanded.is))

pub why_of-returns-in_ok-parts-in-Step : goal.why_of-returns-in_ok-parts-in-Step
why_of-returns-in_ok-parts-in-Step t c =
    let whys = subst (λ it. AreWhys c.args.entries.now it c.in_ok-parts-in-Step.parts) c.items.ensures c.in_ok-parts-in-Step.ensures in
    step c.args.at c.in-Step.number c.in-Step.places c.in_ok-parts-in-Step.parts
    (has_reason c.args.entries.now c.args.at c.index-entries-at.result (reason.Step c.in-Step.number c.in-Step.places)
    c.requires.within c.index-entries-at.is (ap (λ (it : Entry). it.reason) c.index-entries-at.is ∙ c.in-Step.is)) whys.as_many whys.each

pub why_of-returns-in_ok-parts-in-Equal : goal.why_of-returns-in_ok-parts-in-Equal
why_of-returns-in_ok-parts-in-Equal t c =
    let whys = subst (λ it. AreWhys c.args.entries.now it c.in_ok-parts-in-Equal.parts) c.items-in-Equal.ensures c.in_ok-parts-in-Equal.ensures in
    same c.args.at c.in-Equal.places c.in_ok-parts-in-Equal.parts
    (has_reason c.args.entries.now c.args.at c.index-entries-at.result (reason.Equal c.in-Equal.places)
    c.requires.within c.index-entries-at.is (ap (λ (it : Entry). it.reason) c.index-entries-at.is ∙ c.in-Equal.is)) whys.as_many whys.each

pub whys_of-why_of-why-requires : goal.whys_of-why_of-why-requires
whys_of-why_of-why-requires t c =
    let below = place_below c.args.places.now c.places.place-index c.args.bound c.places-test.true c.requires.below in (
      omega (arith, below, c.decreases),
      (omega (arith, below, c.requires.within), c.requires.reasoned),
    )

pub whys_of-places-preserved : goal.whys_of-places-preserved
whys_of-places-preserved t c =
    let (why, is, now) =
    put_has c.why_of-why.result (IsWhy c.args.entries.now (get_or c.args.places.now c.places.place-index 0)) c.places.whys c.put_made.new.items
    c.why_of-why.ensures c.in_ok-put_made.ensures in
    whys_more c.args.entries.now c.args.places.now c.places.whys c.put_made.new.items c.places.place-index why c.places-test.true c.places.invariant is now
